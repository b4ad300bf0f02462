-- Where the code of a yielder finds data, by what it is made from.
use Rattle.rv_yield.specs.Holding.{Places, slots_of}
use Rattle.rv_yield.specs.declared.source.Source.{Source}
use Rattle.rv_yield.specs.declared.values.Slots.{Slots}

abbrev pub places_of : Source → Places
places_of source = record { given = source.given.now; bound = slots_of source.bound.now }

-- where the code of one yielder by itself finds them
abbrev pub places_in : Slots → Places
places_in slots = record { given = slots.given.now; bound = slots_of slots.bound.now }
