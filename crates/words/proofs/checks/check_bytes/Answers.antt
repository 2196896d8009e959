use Rattle.std.proofs.Common.{◌+◌, not, zero-add, Err, sym, ap, ◌∙◌, rules, tests}
use Rattle.std.proofs.lemmas.Iterator.{YieldsList-from_slice}
use Rattle.std.proofs.lemmas.Iterator.Search.{position_from_yields_List}
use Rattle.words.specs.declared.fault.WordFault.TheVariants.{Byte}
use Rattle.words.specs.Plain.{printable}
use Rattle.words.proofs.Turns.{first_refused, all_passed}
use Rattle.words.proofs.Searches.{position_some, position_none}
use Rattle.words.proofs.checks.check_bytes.Goals as goal

pub returns-in-Some : goal.returns-in-Some
returns-in-Some c =
    let n = c.args.line.number in
    let xs = c.args.line.bytes.now in
    let found = position_from_yields_List (λ b. not (printable b)) _ _ c.position.result c.position.ensures.ran (YieldsList-from_slice xs cc) (λ x b q k. search (rules, tests)) in
    let is = position_some _ xs c.in-Some.i (sym found ∙ c.in-Some.is) in
    sym (first_refused printable (λ i _. Byte (record { line = n; place = i + 1 })) 0 xs 0 is.0 ∙ ap (λ i. Err (Byte (record { line = n; place = i + 1 }))) (zero-add _ ∙ is.1))

pub returns-in-None : goal.returns-in-None
returns-in-None c =
    let n = c.args.line.number in
    let xs = c.args.line.bytes.now in
    let found = position_from_yields_List (λ b. not (printable b)) _ _ c.position.result c.position.ensures.ran (YieldsList-from_slice xs cc) (λ x b q k. search (rules, tests)) in
    sym (all_passed printable (λ i _. Byte (record { line = n; place = i + 1 })) 0 xs (position_none _ xs (sym found ∙ c.in-None.is)))
