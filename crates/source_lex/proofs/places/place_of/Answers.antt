use Rattle.std.proofs.Common.{sym, ◌∙◌}
use Rattle.source_lex.proofs.PlaceLaws.{place_found, place_none}
use Rattle.source_lex.proofs.places.place_of.Goals as goal

pub returns-in-None : goal.returns-in-None
returns-in-None c = c.len.ensures.len ∙ place_none c.args.list.now.keys c.args.text.now (sym c.get_index_of.ensures.index ∙ c.in-None.is)

pub returns-in-Some : goal.returns-in-Some
returns-in-Some c = place_found c.args.list.now.keys c.args.text.now c.in-Some.place (sym c.get_index_of.ensures.index ∙ c.in-Some.is)
