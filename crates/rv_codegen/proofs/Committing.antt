-- Nodes that commit: every open alternative is closed by three instructions, and the mark is set.
use Rattle.std.proofs.Common.{◌≡◌, ℕ, ◌+◌, ◌^◌, ◌<◌, ◌≤◌, List, ◌∷◌, get_or, set, length, map, refl, sym, ap, ◌∙◌, subst, arith, length-set, get_or-set_same, get_or-set_other, inl, ⊎_elim}
use Rattle.rv_asm.specs.Arrivals.{LabelsStand}
use Rattle.rv_asm.specs.Assembly.{address_of, spot}
use Rattle.rv_asm.specs.WordMachine.{WordState, Has}
use Rattle.rv_asm.specs.declared.item.Item.TheVariants.{Plain}
use Rattle.rv_asm.proofs.Registers.{put-other}
use Rattle.rv_asm.proofs.Sending.{code_from-plain}
use Rattle.rv_asm.proofs.Stretches.{quiet-between, then-runs}
use Rattle.action_terms.specs.Actions.{Commit, Simple, node_at}
use Rattle.action_terms.specs.Frames.{plugged}
use Rattle.action_terms.specs.Performances.{Here}
use Rattle.action_terms.specs.Steps.{Step, Commits, with_effect, done}
use Rattle.rv_prelude.specs.PieceRuns.{Comes, HasRegion, quietly}
use Rattle.rv_prelude.specs.Pieces.{commit}
use Rattle.rv_prelude.specs.Region.{Chains, committed_words}
use Rattle.rv_prelude.proofs.Arrivals.{arrives}
use Rattle.rv_prelude.proofs.Commitments.{committed as committed_state, commit-runs}
use Rattle.rv_codegen.specs.Blocks.{stop_of}
use Rattle.rv_codegen.proofs.Around.{committed}
use Rattle.rv_codegen.proofs.AroundKept.{frames-high}
use Rattle.rv_codegen.proofs.Ending.{nothing-done}
use Rattle.rv_codegen.proofs.Holding.{grows-same}
use Rattle.rv_codegen.proofs.InputLeft.{left-same}
use Rattle.rv_codegen.proofs.Performing.{Did}
use Rattle.rv_codegen.proofs.PieceStands.{PieceStands, piece-stands}
use Rattle.rv_codegen.proofs.RestPoints.{Laid, Region, Starting, StartGoesOn, near, open-run}
use Rattle.rv_codegen.proofs.Settings.{Point, Way, way-runs, Setting, code, start, stop, exit, node_words}
use Rattle.rv_codegen.proofs.Standing.{NodeStands}
use Rattle.rv_codegen.proofs.Units.{units-kept}

module _ (s : Setting) where
  -- the code of node k: it commits, and goes on where the node does
  pub record CommitCode (k : ℕ) : Type 0 where
    pub behind : Point
    pub near_behind : behind.place < 2 ^ 28
    pub commits :
        (c : WordState) → c.pc ≡ address_of (start s k).place → HasRegion s.base c →
        Comes s.base (code s) 3 c (quietly c (address_of behind.place) (committed_words c.words))
    pub leave : Way (code s) behind (exit s k)

  -- what a commitment makes of the words of the region and of its chains
  module _ (words : List ℕ) (c : Chains) (size : length words ≡ s.count) (some : 512 < s.count) where
    pub committed-other : (j : ℕ) → 4 ≤ j → get_or (committed_words words) j 0 ≡ get_or words j 0
    committed-other j far = get_or-set_other (set words 1 0) 3 j 1 0 (omega arith) ∙ get_or-set_other words 1 j 0 0 (omega arith)

    pub committed-region : Region s words c → Region s (committed_words words) (committed c)
    committed-region r =
        let s1 = length-set words 1 0 in
        let s2 = length-set (set words 1 0) 3 1 in
        record {
          size = s2 ∙ s1 ∙ size;
          alternative = get_or-set_other (set words 1 0) 3 1 1 0 (λ q. omega arith) ∙ get_or-set_same words 1 0 0 (omega (arith, size, some));
          trap = get_or-set_other (set words 1 0) 3 2 1 0 (λ q. omega arith) ∙ get_or-set_other words 1 2 0 0 (λ q. omega arith) ∙ r.trap;
          mark = get_or-set_same (set words 1 0) 3 1 0 (omega (arith, s1, size, some));
        }

  -- ---- and what the entry that sends makes of them

  -- the words behind a message that is sent
  abbrev pub sent_words : List ℕ → (word : ℕ) → List ℕ
  sent_words words word = committed_words (set words 0 word)

  module _ (words : List ℕ) (c : Chains) (word : ℕ) (r : Region s words c) (some : 512 < s.count) where
    message_size : length (set words 0 word) ≡ s.count
    message_size = length-set words 0 word ∙ r.size

    message-region : Region s (set words 0 word) c
    message-region = record {
      size = message_size;
      alternative = get_or-set_other words 0 1 word 0 (λ q. omega arith) ∙ r.alternative;
      trap = get_or-set_other words 0 2 word 0 (λ q. omega arith) ∙ r.trap;
      mark = get_or-set_other words 0 3 word 0 (λ q. omega arith) ∙ r.mark;
    }

    pub sent-region : Region s (sent_words words word) (committed c)
    sent-region = committed-region (set words 0 word) c message_size some message-region

    pub sent-other : (j : ℕ) → 4 ≤ j → get_or (sent_words words word) j 0 ≡ get_or words j 0
    sent-other j far = committed-other (set words 0 word) c message_size some j far ∙ get_or-set_other words 0 j word 0 (omega arith)

  module _ (laid : Laid s) (x : Starting s) (code_of_node : CommitCode x.k) where
    abbrev n : Step
    n = with_effect Commits done

    commit-did : Did s laid x n (exit s x.k)
    commit-did =
        let h = x.runs.here in
        let many : length x.state.words ≡ s.count = ap length h.stands.words_are ∙ h.region.size in
        let region : HasRegion s.base x.state = record { aligned = laid.aligned; below = omega (arith, laid.below, many); front = omega (arith, laid.some, many); region = h.stands.region } in
        let q = code_of_node.commits x.state x.runs.at region in
        let c = q.0.end in
        let g = way-runs s.base (code s) c code_of_node.behind (exit s x.k) code_of_node.near_behind (near s laid (get_or s.exits x.k 0)) q.0.at code_of_node.leave in
        let high = frames-high s h.heap h.words x.frames h.f x.k h.chains h.around in
        let other = committed-other h.words h.chains h.region.size laid.some in
        let count = q.0.instructions + g.count in
        let runs = then-runs s.base (code s) q.0.instructions g.count x.state c g.end q.0.leads.words g.runs in
        let quiet = g.output ∙ q.0.output in
        record {
          end = g.end;
          count = count;
          some = inl (omega (arith, q.0.some));
          few = omega (arith, q.0.few, g.few, s.ample);
          runs = runs;
          between = quiet-between s.base (code s) count x.state g.end runs quiet;
          at = g.at;
          heap = h.heap;
          grows = grows-same h.heap;
          words = committed_words h.words;
          stands = record { region = g.others 3 (omega arith) ∙ q.1 3 (omega arith) ∙ h.stands.region; frame_at = g.others 2 (omega arith) ∙ q.1 2 (omega arith) ∙ h.stands.frame_at; words_are = g.words ∙ q.0.words ∙ ap committed_words h.stands.words_are };
          region = committed-region h.words h.chains h.region.size laid.some h.region;
          agrees = record { here = λ i no. other (h.f + i) (omega (arith, high)); below = λ j lo lt. other j (omega arith) };
          units_are = units-kept s h.heap h.words (committed_words h.words) x.steps (plugged x.frames n ∷ x.steps) x.world.cells (λ j out. other j (⊎_elim (λ z. z.0) (λ z. omega arith) out)) (omega arith) h.units_are;
          left = left-same {ys = g.end.input} (g.input ∙ q.0.input) x.left;
          output = quiet ∙ x.shown;
        }

    -- every alternative around the node is closed
    pub commits-go : node_at s.action x.k ≡ Simple Commit → StartGoesOn s x
    commits-go e = nothing-done s laid x n (open-run s x.k x.d x.b x.world (Simple Commit) n e Here) refl commit-did

  -- the code of such a node stands
  pub commit-code : Laid s → (k : ℕ) → PieceStands s k (map Plain commit) → CommitCode k
  commit-code laid k at = record {
    behind = stop s k;
    near_behind = near s laid (stop_of k);
    commits = λ c here region.
        let has : Has (code s) c.pc commit = subst (λ p. Has (code s) p commit) (sym here) (subst (Has (code s) (address_of (start s k).place)) (code_from-plain (spot s.items) (start s k).place commit) at.code_stands) in (
          arrives s.base (code s) 3 3 c (committed_state c) (quietly c (address_of (stop s k).place) (committed_words c.words)) (omega arith) (omega arith) (commit-runs s.base (code s) c region has) (omega (arith, here, at.behind)) refl refl refl,
          λ j lt. put-other c.registers j 5 1 (omega arith),
        );
    leave = at.leave;
  }

  pub commit-goes : (laid : Laid s) (x : Starting s) → node_at s.action x.k ≡ Simple Commit → LabelsStand s.items → stop_of x.k < s.labels → NodeStands s.items (node_words s) s.exits x.k (Simple Commit) → StartGoesOn s x
  commit-goes laid x e labels within stands =
      commits-go laid x (commit-code laid x.k (piece-stands s x.k (map Plain commit) laid labels within (Simple Commit) refl stands)) e
