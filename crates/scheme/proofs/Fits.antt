-- The tests that chains of iterators make, against those of the model.
use Rattle.std.proofs.Common.{◌≡◌, ℕ, suc, false, ◌&&◌, ltb, List, [], ◌∷◌, map, length, Option, refl, ap}
use Rattle.std.specs.List.{list_all, zip}
use Rattle.std.proofs.lemmas.Bool.{and_right}
use Rattle.bounded.specs.Items.{items}
use Rattle.scheme.specs.declared.entries.Object.{Object}
use Rattle.scheme.specs.declared.entries.Policy.{Policy}
use Rattle.scheme.specs.Models.{object_of, policy_of}
use Rattle.scheme.specs.WellFormed.{value_fits, values_fit, objects_fit, rights_fit}

pub all_rights : (rights : ℕ) (ps : List Policy) → list_all (λ (p : Policy). ltb p.right rights) ps ≡ rights_fit rights (map policy_of ps)
all_rights rights [] = refl
all_rights rights (p ∷ ps) = ap (λ b. ltb p.right rights && b) (all_rights rights ps)

pub all_objects : (ks : List ℕ) (os : List Object) → list_all (λ (o : Object). values_fit ks (items o.values)) os ≡ objects_fit ks (map object_of os)
all_objects ks [] = refl
all_objects ks (o ∷ os) = ap (λ b. values_fit ks (items o.values) && b) (all_objects ks os)

module _ {X : Type 0} (size : X → ℕ) where
  pub all_values : (xs : List X) (vs : List (Option ℕ)) → length vs ≡ length xs → list_all (λ (p : X × Option ℕ). value_fits (size p.0) p.1) (zip xs vs) ≡ values_fit (map size xs) vs
  all_values [] [] even = refl
  all_values [] (v ∷ vs) even = cc
  all_values (x ∷ xs) [] even = cc
  all_values (x ∷ xs) (v ∷ vs) even = ap (λ b. value_fits (size x) v && b) (all_values xs vs (cc))

  pub values_of_other_count : (xs : List X) (vs : List (Option ℕ)) → (length vs ≡ length xs → ⊥) → values_fit (map size xs) vs ≡ false
  values_of_other_count [] [] uneven = absurd (uneven refl)
  values_of_other_count [] (v ∷ vs) uneven = refl
  values_of_other_count (x ∷ xs) [] uneven = refl
  values_of_other_count (x ∷ xs) (v ∷ vs) uneven = and_right (value_fits (size x) v) _ (values_of_other_count xs vs (λ e. uneven (ap suc e)))
