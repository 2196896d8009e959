use Rattle.std.proofs.Common.{rules}
use Rattle.std.proofs.lemmas.Simd.{map-map}
use Rattle.scheme.proofs.draft.Draft.find.Goals as goal

-- the names of the entries are those of what the entries stand for

pub returns-in-Attr-clause-value : goal.returns-in-Attr-clause-value
returns-in-Attr-clause-value c = search (rules, map-map)

pub returns-in-Object-clause-value : goal.returns-in-Object-clause-value
returns-in-Object-clause-value c = search (rules, map-map)

pub returns-in-Policy-clause-value : goal.returns-in-Policy-clause-value
returns-in-Policy-clause-value c = search (rules, map-map)
