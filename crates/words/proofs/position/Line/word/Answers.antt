use Rattle.std.proofs.Common.{◌≡◌, Some, None, Option, refl, ap, ◌∙◌}
use Rattle.std.specs.Option.{option_map, unwrap_or}
use Rattle.std.specs.Iterator.{YieldsFirstBy}
use Rattle.std.proofs.lemmas.Option.{unwrap_or-slice_get}
use Rattle.std.proofs.lemmas.Iterator.Consumers.{nth_from_yields_List, YieldsList-from_first}
use Rattle.words.specs.declared.position.Word.{Word}
use Rattle.words.specs.Positions.{word_of, no_word}
use Rattle.words.specs.Cuts.{line_words, coming_words}
use Rattle.words.proofs.position.Line.word.Goals as goal

word_or : (r : Option Word) (d : Word) → word_of (unwrap_or r d) ≡ unwrap_or (option_map word_of r) (word_of d)
word_or None d = refl
word_or (Some w) d = refl

pub returns : goal.returns
returns c =
    let ws = line_words c.args.self in
    let nth = nth_from_yields_List {steps = YieldsFirstBy word_of coming_words} {s = c.words.result} c.nth.result c.nth.new.self c.args.index c.nth.ensures.ran (YieldsList-from_first word_of coming_words ws c.words.ensures.result) in
    ap word_of c.unwrap_or.ensures ∙ word_or c.nth.result _ ∙ ap (λ r. unwrap_or r no_word) nth ∙ unwrap_or-slice_get ws c.args.index no_word
