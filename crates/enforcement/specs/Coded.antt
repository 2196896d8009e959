-- A subject and an object by their codes.
use Rattle.std.specs.Prelude.{ℕ, ◌<◌, cond, ◌&&◌, List, None, Option, nat_lt}
use Rattle.std.specs.Option.{option_map}
use Rattle.scheme.specs.Sizes.{size_states}
use Rattle.scheme.specs.declared.terms.Predicate.{Predicate}
use Rattle.scheme.specs.declared.terms.Action.{Action}
use Rattle.scheme.specs.declared.terms.Party.{Party}
use Rattle.scheme.specs.declared.terms.Party.TheVariants.{Subject, Object}
use Rattle.codes.specs.Codes.{code, object_from}
use Rattle.enforcement.specs.declared.pair.Pair.{Pair}
use Rattle.enforcement.specs.Parties.{Parties}
use Rattle.enforcement.specs.Enforcement.{enforced_on}

abbrev pub parties_from : List ℕ → Pair → Parties
parties_from ks p = record { subject = object_from ks p.subject; object = object_from ks p.object }

abbrev pub pair_of : List ℕ → Parties → Pair
pair_of ks p = record { subject = code ks p.subject; object = code ks p.object }

abbrev pub code_in : Party → Pair → ℕ
code_in Subject p = p.subject
code_in Object p = p.object

abbrev pub with_code : Party → Pair → ℕ → Pair
with_code Subject p c = record { subject = c; object = p.object }
with_code Object p c = record { subject = p.subject; object = c }

-- both numbers are codes
pub record Coded (ks : List ℕ) (p : Pair) : Type 0 where
  pub subject : p.subject < size_states ks
  pub object : p.object < size_states ks

-- what becomes of two codes, by what becomes of the objects that they stand for
abbrev pub on_codes : List ℕ → (Parties → Option Parties) → Pair → Option Pair
on_codes ks f p = option_map (pair_of ks) (f (parties_from ks p))

-- what enforcement makes of two codes; none where a number is no code
abbrev pub enforced_pair : List ℕ → List Predicate → List Action → Pair → Option Pair
enforced_pair ks qs xs p =
    cond (nat_lt p.subject (size_states ks) && nat_lt p.object (size_states ks))
    (on_codes ks (λ x. enforced_on ks qs xs x.subject x.object) p)
    None
