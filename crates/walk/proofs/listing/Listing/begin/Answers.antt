-- The start state is marked, and no other.
use Rattle.std.proofs.Common.{ℕ, List, [], length, replicate, set, take, sym, refl, subst, arith}
use Rattle.std.proofs.lemmas.List.{take_more_set, get_or-replicate, length-replicate}
use Rattle.walk.specs.declared.records.Found.{Found}
use Rattle.walk.specs.Search.{entry}
use Rattle.walk.specs.Tables.{Marked}
use Rattle.walk.proofs.Marks.{marked_more}
use Rattle.walk.proofs.listing.Listing.begin.Goals as goal

pub invariant_of-result-clause-marked : goal.invariant_of-result-clause-marked
invariant_of-result-clause-marked c =
    let none : List ℕ = replicate (length c.args.marks.now) 0 in
    let table : List Found = set c.args.table.now 0 (entry c.args.start 0 0) in
    let listed = take_more_set c.args.table.now 0 (entry c.args.start 0 0) c.requires.room in
    let none_marked : Marked none [] = λ s below. get_or-replicate (length c.args.marks.now) s 0 0 (omega (arith, length-replicate {A = ℕ} (length c.args.marks.now) 0)) in
    subst (λ (marks : List ℕ). Marked (set marks c.args.start 1) (take 1 table)) (sym (c.fill.ensures.after (λ y is. is)))
    (subst (λ (xs : List Found). Marked (set none c.args.start 1) xs) (sym listed) (marked_more none [] c.args.start 0 0 none_marked refl))
