-- A marked state is listed and nothing changes; an unmarked one is listed and marked.
use Rattle.std.proofs.Common.{ℕ, ◌+◌, List, [], ◌∷◌, ◌++◌, set, sym, ◌∙◌, subst, arith}
use Rattle.std.proofs.lemmas.Bool.{cond-true, cond-false}
use Rattle.std.proofs.lemmas.List.{take-set, take_more_set, length-set, length-take-le}
use Rattle.walk.specs.declared.records.Found.{Found}
use Rattle.walk.specs.Search.{listed, entry}
use Rattle.walk.specs.Tables.{Marked}
use Rattle.walk.specs.Listings.{so_far}
use Rattle.walk.proofs.Marks.{is_listed, is_new, marked_more}
use Rattle.walk.proofs.listing.Listing.note_next.Goals as goal

pub returns-then-self-next-ne0-clause-list : goal.returns-then-self-next-ne0-clause-list
returns-then-self-next-ne0-clause-list c =
    let list : List Found = so_far c.args.self.now in
    sym (cond-true (listed list c.args.next) list (list ++ (entry c.args.next c.args.place c.args.mv ∷ []))
    (is_listed c.args.self.now.marks.now list c.args.next c.args.self.now.marked c.requires.below c.if-self-next-ne0.true))

pub bounds-self-self : goal.bounds-self-self
bounds-self-self c =
    c.requires.room (is_new c.args.self.now.marks.now (so_far c.args.self.now) c.args.next c.args.self.now.marked c.requires.below c.if-self-next-ne0.false)

pub returns-clause-list : goal.returns-clause-list
returns-clause-list c =
    let list : List Found = so_far c.args.self.now in
    let new : Found = entry c.args.next c.args.place c.args.mv in
    let unlisted = is_new c.args.self.now.marks.now list c.args.next c.args.self.now.marked c.requires.below c.if-self-next-ne0.false in
    take_more_set c.args.self.now.table.now c.args.self.now.count new (c.requires.room unlisted)
    ∙ sym (cond-false (listed list c.args.next) list (list ++ (new ∷ [])) unlisted)

-- the entry behind the listed ones is written first: what is listed is as it was
pub invariant_of-self-clause-marked : goal.invariant_of-self-clause-marked
invariant_of-self-clause-marked c =
    subst (λ (xs : List Found). Marked c.args.self.now.marks.now xs)
    (sym (take-set c.args.self.now.table.now c.args.self.now.count (entry c.args.next c.args.place c.args.mv))) c.args.self.now.marked

-- then it is counted and marked
pub invariant_of-self-2-clause-fits : goal.invariant_of-self-2-clause-fits
invariant_of-self-2-clause-fits c =
    let unlisted = is_new c.args.self.now.marks.now (so_far c.args.self.now) c.args.next c.args.self.now.marked c.requires.below c.if-self-next-ne0.false in
    omega (arith, c.requires.room unlisted, length-set c.args.self.now.table.now c.args.self.now.count (entry c.args.next c.args.place c.args.mv))

pub invariant_of-self-2-clause-marked : goal.invariant_of-self-2-clause-marked
invariant_of-self-2-clause-marked c =
    let list : List Found = so_far c.args.self.now in
    let new : Found = entry c.args.next c.args.place c.args.mv in
    let unlisted = is_new c.args.self.now.marks.now list c.args.next c.args.self.now.marked c.requires.below c.if-self-next-ne0.false in
    subst (λ (xs : List Found). Marked (set c.args.self.now.marks.now c.args.next (c.args.self.now.count + 1)) xs)
    (sym (take_more_set c.args.self.now.table.now c.args.self.now.count new (c.requires.room unlisted)))
    (subst (λ (n : ℕ). Marked (set c.args.self.now.marks.now c.args.next (n + 1)) (list ++ (new ∷ [])))
    (length-take-le c.args.self.now.count c.args.self.now.table.now c.args.self.now.fits)
    (marked_more c.args.self.now.marks.now list c.args.next c.args.place c.args.mv c.args.self.now.marked unlisted))
