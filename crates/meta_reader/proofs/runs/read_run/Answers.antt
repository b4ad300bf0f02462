use Rattle.meta_reader.proofs.runs.read_run.Goals as goal

pub returns-in-Heading : goal.returns-in-Heading
returns-in-Heading c = rw c.in-Heading.is c.read_heading.ensures

pub returns-in-Productions : goal.returns-in-Productions
returns-in-Productions c = rw c.in-Productions.is c.read_next.ensures

pub returns-in-Equations : goal.returns-in-Equations
returns-in-Equations c = rw c.in-Equations.is c.read_last.ensures
