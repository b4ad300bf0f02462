-- Walks over the nodes of an action.
use Rattle.std.specs.Prelude.{ℕ, ◌<◌, List, [], ◌∷◌, All}
use Rattle.action_terms.specs.declared.view.NodeView.{NodeView}
use Rattle.action_terms.specs.declared.view.NodeView.TheVariants as node
use Rattle.sort_infer.specs.declared.tour.Job.{Job}
use Rattle.sort_infer.specs.declared.tour.Job.TheVariants as job

-- the parts of a node and the body of an `unfolding`, the last one first
abbrev pub parts_of : NodeView → List ℕ
parts_of (node.Unfolding c) = c ∷ []
parts_of (node.Furthermore l) = l ∷ []
parts_of (node.Both j l r) = r ∷ l ∷ []
parts_of (node.Phases q l r) = r ∷ l ∷ []
parts_of (node.Either l r) = r ∷ l ∷ []
parts_of (node.Trapping l r) = r ∷ l ∷ []
parts_of (node.Branch y l r) = r ∷ l ∷ []
parts_of _ = []

-- the node that a job is about
abbrev pub job_node : Job → ℕ
job_node (job.Enter k) = k
job_node (job.Visit k) = k

-- each is about a node below the count
abbrev pub AreWithin : (count : ℕ) → List Job → Type 0
AreWithin count jobs = All (λ j. job_node j < count) jobs
