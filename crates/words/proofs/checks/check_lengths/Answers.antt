use Rattle.std.proofs.Common.{not, Err, sym, ap, ◌∙◌, rules, tests}
use Rattle.std.specs.Option.{option_map}
use Rattle.std.proofs.lemmas.Iterator.Consumers.{YieldsList-from_first}
use Rattle.std.proofs.lemmas.Iterator.Search.{find_from_yields_List}
use Rattle.words.specs.declared.fault.WordFault.TheVariants.{LongWord}
use Rattle.words.specs.Positions.{word_of, spot_of, no_word}
use Rattle.words.specs.Cuts.{coming_words, line_words}
use Rattle.words.specs.Plain.{short_word}
use Rattle.words.proofs.Turns.{first_refused, all_passed}
use Rattle.words.proofs.Searches.{find_some, find_none}
use Rattle.words.proofs.checks.check_lengths.Goals as goal

pub returns-in-Some : goal.returns-in-Some
returns-in-Some c =
    let ws = line_words c.args.line in
    let w = word_of c.in-Some.word in
    let found = find_from_yields_List (λ w. not (short_word w)) c.find.new.self _ c.find.result c.find.ensures.ran (YieldsList-from_first word_of coming_words ws c.words.ensures.result) (λ x b q k. search (rules, tests)) in
    let is = find_some _ ws w no_word (sym found ∙ ap (option_map word_of) c.in-Some.is) in
    sym (first_refused short_word (λ _ w. LongWord (spot_of w)) 0 ws no_word is.0 ∙ ap (λ w. Err (LongWord (spot_of w))) is.1)

pub returns-in-None : goal.returns-in-None
returns-in-None c =
    let ws = line_words c.args.line in
    let found = find_from_yields_List (λ w. not (short_word w)) c.find.new.self _ c.find.result c.find.ensures.ran (YieldsList-from_first word_of coming_words ws c.words.ensures.result) (λ x b q k. search (rules, tests)) in
    sym (all_passed short_word (λ _ w. LongWord (spot_of w)) 0 ws (find_none _ ws no_word (sym found ∙ ap (option_map word_of) c.in-None.is)))
