-- What an accepted draft has: a start state that is a state, and counts within the bounds.
use Rattle.std.proofs.Common.{◌≡◌, ℕ, Bool, true, false, cond, ◌&&◌, List, [], ◌∷◌, map, Some, None, sym, refl, ap, ◌∙◌}
use Rattle.std.proofs.lemmas.List.{length-map}
use Rattle.std.proofs.lemmas.Bool.{and_parts, and_from, eq-eqb}
use Rattle.scheme.specs.Models.{ObjectModel, SchemeModel}
use Rattle.scheme.specs.Sizes.{sizes_of}
use Rattle.scheme.specs.WellFormed.{values_fit, objects_fit, well_formed}
use Rattle.codes.specs.Objects.{there}
use Rattle.enforcement.proofs.Fitting.{none_some}
use Rattle.enforcement.specs.Enforcement.{State}
use Rattle.record.specs.States.{all_fit, state_fits, number}
use Rattle.record.specs.Numberings.{Dimensions, within_bounds}
use Rattle.record.specs.Systems.{object_count, start_state}

-- an answer that is there under a condition

pub none_cond : {X : Type 0} (b : Bool) (x : X) → None ≡ cond b (Some x) None → b ≡ false
none_cond true x e = absurd (none_some x e)
none_cond false x e = refl

pub some_cond : {X : Type 0} (b : Bool) (x y : X) → Some y ≡ cond b (Some x) None → (b ≡ true) × (y ≡ x)
some_cond true x y e = (refl, cc)
some_cond false x y e = absurd (none_some y (sym e))

fit_start : (ks : List ℕ) (os : List ObjectModel) → all_fit ks (map (λ (o : ObjectModel). there o.values) os) ≡ objects_fit ks os
fit_start ks [] = refl
fit_start ks (o ∷ os) = ap (λ b. values_fit ks o.values && b) (fit_start ks os)

pub start_is_state : (m : SchemeModel) → well_formed m ≡ true → state_fits (sizes_of m) (object_count m) (start_state m) ≡ true
start_is_state m h =
    and_from _ _ (eq-eqb _ _ (length-map m.objects (λ (o : ObjectModel). there o.values)))
    (fit_start (sizes_of m) m.objects ∙ (and_parts _ _ h).0)

-- the dimensions of the numbering that a draft gets
pub built : (m : SchemeModel) (ks : List ℕ) (n : ℕ) (d : Dimensions) → ks ≡ sizes_of m → n ≡ object_count m
    → Some d ≡ cond (within_bounds ks n) (Some (record { sizes = ks; objects = n })) None
    → d ≡ record { sizes = sizes_of m; objects = object_count m }
built m ks n d is-sizes is-count e =
    (some_cond (within_bounds ks n) (record { sizes = ks; objects = n }) d e).1
    ∙ ap (λ l. record { sizes = l; objects = n }) is-sizes
    ∙ ap (λ k. record { sizes = sizes_of m; objects = k }) is-count

-- its start state has a number
pub start_number : (m : SchemeModel) (d : Dimensions) (t : State) → well_formed m ≡ true → d ≡ record { sizes = sizes_of m; objects = object_count m } → t ≡ start_state m
    → cond (state_fits d.sizes d.objects t) (Some (number d.sizes t)) None ≡ Some (number (sizes_of m) (start_state m))
start_number m d t formed is-dimensions is-start =
    ap (λ (x : Dimensions). cond (state_fits x.sizes x.objects t) (Some (number x.sizes t)) None) is-dimensions
    ∙ ap (λ x. cond (state_fits (sizes_of m) (object_count m) x) (Some (number (sizes_of m) x)) None) is-start
    ∙ ap (λ b. cond b (Some (number (sizes_of m) (start_state m))) None) (start_is_state m formed)
