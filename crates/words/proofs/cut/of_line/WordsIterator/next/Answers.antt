use Rattle.std.proofs.Common.{◌-◌, not, eqb, length, take, drop, sym, ◌∙◌, rules, tests}
use Rattle.std.proofs.lemmas.List.{take_rest}
use Rattle.std.proofs.lemmas.Iterator.{YieldsList-from_slice}
use Rattle.std.proofs.lemmas.Iterator.Search.{position_from_yields_List}
use Rattle.words.proofs.Pieces.{end_within, words_none, words_first}
use Rattle.words.proofs.Searches.{position_some, position_none}
use Rattle.words.proofs.cut.of_line.WordsIterator.next.Goals as goal

pub returns-in_err-spaces-clause-steps : goal.returns-in_err-spaces-clause-steps
returns-in_err-spaces-clause-steps c =
    let self = c.args.self.now in
    let found = position_from_yields_List (λ b. not (eqb b 32)) _ _ c.position.result c.position.ensures.ran (YieldsList-from_slice self.rest.now cc) (λ x b q k. search (rules, tests)) in
    let none = words_none self.spot.line self.spot.place self.rest.now (position_none _ _ (sym found ∙ c.in_err-spaces.was)) in
    rw c.from_residual.ensures (none, none)

pub split_at-requires : goal.split_at-requires
split_at-requires c = rw c.piece_end.ensures (end_within 32 _)

pub returns-clause-steps : goal.returns-clause-steps
returns-clause-steps c =
    let self = c.args.self.now in
    let xs = self.rest.now in
    let k = c.in_ok-spaces.spaces in
    let from = take (length xs - k) (drop k xs) in
    let found = position_from_yields_List (λ b. not (eqb b 32)) _ _ c.position.result c.position.ensures.ran (YieldsList-from_slice xs cc) (λ x b q k. search (rules, tests)) in
    let is = position_some _ _ k (sym found ∙ c.in_ok-spaces.was) in
    words_first self.spot.line self.spot.place xs k from _ _ c.piece_end.result is.0 is.1 (take_rest xs k) c.piece_end.ensures c.split_at.ensures.front c.split_at.ensures.back
