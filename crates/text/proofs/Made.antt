-- What is read makes a record exactly where it has few states, and the record declares the same.
use Rattle.std.proofs.Common.{◌≡◌, ℕ, Bool, true, false, cond, Some, None, Ok, Err, Option, Result, sym, refl, ap, ◌∙◌}
use Rattle.std.specs.Option.{option_map, ok_or}
use Rattle.scheme.specs.Models.{SchemeModel}
use Rattle.scheme.specs.WellFormed.{well_formed}
use Rattle.words.specs.Outcomes.{map_ok}
use Rattle.record.specs.declared.record.Scheme.{Scheme}
use Rattle.record.specs.Accepted.{accepted}
use Rattle.record.specs.Schemes.{scheme_of}
use Rattle.text.specs.declared.fault.SchemeFault.{SchemeFault}
use Rattle.text.specs.declared.fault.SchemeFault.TheVariants.{Missing, States}
use Rattle.text.specs.Reading.{complete, few_states, finished}
use Rattle.text.proofs.Sound.{accepted_few}

module _ (m : SchemeModel) (fault : SchemeFault) where
  made_where : (o : Option Scheme) (few : Bool) → option_map scheme_of o ≡ cond few (Some m) None → map_ok scheme_of (ok_or o fault) ≡ cond few (Ok m) (Err fault)
  made_where (Some s) true h = cc
  made_where (Some s) false h = cc
  made_where None true h = cc
  made_where None false h = refl

pub made : (n : ℕ) (m : SchemeModel) (o : Option Scheme) (r : Result Scheme SchemeFault) → well_formed m ≡ true → complete m ≡ true
    → option_map scheme_of o ≡ cond (accepted m) (Some m) None → r ≡ ok_or o (States (record { line = n; place = 1 }))
    → map_ok scheme_of r ≡ finished n m
made n m o r formed whole answer is =
    let many : SchemeFault = States (record { line = n; place = 1 }) in
    ap (map_ok scheme_of) is
    ∙ made_where m many o (few_states m) (answer ∙ ap (λ b. cond b (Some m) None) (accepted_few m formed whole))
    ∙ sym (ap (λ b. cond b (cond (few_states m) (Ok m) (Err many)) (Err (Missing (record { line = n; place = 1 })))) whole)
