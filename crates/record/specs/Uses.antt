-- The scheme that a move is of.
use Rattle.std.specs.Prelude.{ℕ, List}
use Rattle.scheme.specs.Models.{SchemeModel, PolicyModel}
use Rattle.record.specs.declared.record.uses.Use.{Use}
use Rattle.record.specs.Numberings.{dimensions_of}
use Rattle.record.specs.Schemes.{scheme_of}
use Rattle.record.specs.Systems.{policy_at}

abbrev pub model_of : Use → SchemeModel
model_of u = scheme_of u.scheme.now

-- the sizes of the attributes
abbrev pub sizes_in : Use → List ℕ
sizes_in u = (dimensions_of u.scheme.now.numbering).sizes

abbrev pub policy_in : Use → PolicyModel
policy_in u = policy_at (model_of u) u.mv.policy
