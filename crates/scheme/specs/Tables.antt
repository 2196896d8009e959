-- The table of policies, as the list of the policies in it.
use Rattle.std.specs.Prelude.{◌≡◌, ◌≤◌, List, map, length, take}
use Rattle.scheme.specs.declared.entries.Policy.{Policy}
use Rattle.scheme.specs.declared.policies.Policies.{Policies}
use Rattle.scheme.specs.Models.{PolicyModel, policy_of}

abbrev pub policies_in : Policies → List Policy
policies_in t = take t.len t.rows

-- what they stand for
abbrev pub policies_of : Policies → List PolicyModel
policies_of t = map policy_of (policies_in t)

-- what every table of policies keeps: it has 32 rows, and no more policies than rows
abbrev pub Fits : Policies → Type 0
Fits t = (length t.rows ≡ 32) × (t.len ≤ 32)
