use Rattle.std.proofs.Common.{rules}
use Rattle.std.proofs.lemmas.Simd.{map-map}
use Rattle.std.proofs.lemmas.List.{length-map}
use Rattle.scheme.proofs.draft.Draft.is_well_formed.Goals as goal

-- the sizes of the attributes are those of what the attributes stand for, and there are as many rights

pub returns-then-objects_fit : goal.returns-then-objects_fit
returns-then-objects_fit c = search (rules, map-map, length-map)

pub returns-else-objects_fit : goal.returns-else-objects_fit
returns-else-objects_fit c = search (rules, map-map)
