-- What is read of an object is its value, if it is there; of an absent object only null could be told.
use Rattle.std.proofs.Common.{◌≡◌, ℕ, zero, suc, ◌+◌, ◌-◌, List, [], ◌∷◌, get_or, None, sym, refl, ap, ◌∙◌, arith}
use Rattle.std.proofs.Math.Nat.{zero-mod, zero-div}
use Rattle.std.specs.Option.{option_flatten}
use Rattle.scheme.specs.declared.terms.Party.{Party}
use Rattle.scheme.specs.declared.terms.Party.TheVariants.{Subject, Object}
use Rattle.scheme.specs.declared.terms.Operand.{Operand}
use Rattle.scheme.specs.declared.terms.Operand.TheVariants.{SubjectAttribute, ObjectAttribute, Constant}
use Rattle.codes.specs.Objects.{read_at}
use Rattle.codes.specs.Codes.{from_part, values_from, object_from, value_in}
use Rattle.enforcement.specs.declared.parties.CodedPair.{CodedPair}
use Rattle.enforcement.specs.Parties.{party_in}
use Rattle.enforcement.specs.Predicates.{party_value, operand_value}
use Rattle.enforcement.specs.Actions.{source_of}
use Rattle.enforcement.specs.Meanings.{sizes_of, parties_of, subject_values, object_values}

all_null : (ks : List ℕ) (a : ℕ) → get_or (values_from ks 0) a None ≡ None
all_null [] a = refl
all_null (k ∷ ks) zero = ap from_part (zero-mod (k + 1))
all_null (k ∷ ks) (suc a) = ap (λ c. get_or (values_from ks c) a None) (zero-div (k + 1)) ∙ all_null ks a

value_read : (ks : List ℕ) (c a : ℕ) → option_flatten (read_at (object_from ks c) a) ≡ value_in ks c a
value_read ks zero a =
    let none : zero - 1 ≡ 0 = omega arith in
    sym (ap (λ n. get_or (values_from ks n) a None) none ∙ all_null ks a)
value_read ks (suc c) a =
    let less : c ≡ suc c - 1 = omega arith in
    ap (λ n. get_or (values_from ks n) a None) less

pub term_read : (p : CodedPair) (w : Party) (a : ℕ) → option_flatten (read_at (party_in w (parties_of p)) a) ≡ party_value w a (subject_values p) (object_values p)
term_read p Subject a = value_read (sizes_of p) p.pair.subject a
term_read p Object a = value_read (sizes_of p) p.pair.object a

pub operand_read : (p : CodedPair) (x : Operand) → option_flatten (source_of x (parties_of p)) ≡ operand_value x (subject_values p) (object_values p)
operand_read p (SubjectAttribute a) = value_read (sizes_of p) p.pair.subject a
operand_read p (ObjectAttribute a) = value_read (sizes_of p) p.pair.object a
operand_read p (Constant k) = refl
