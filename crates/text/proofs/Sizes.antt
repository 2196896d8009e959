-- The size of an attribute, in the table and in the model.
use Rattle.std.proofs.Common.{◌≡◌, ℕ, ◌<◌, ◌≤◌, List, map, length, get_or, sym, ap, ◌∙◌, arith}
use Rattle.std.proofs.lemmas.Simd.{map-map}
use Rattle.std.proofs.lemmas.List.{get_or-map, get_or_past, length-map}
use Rattle.scheme.specs.declared.entries.Attribute.{Attribute}
use Rattle.scheme.specs.Models.{AttributeModel, SchemeModel, attribute_of}
use Rattle.text.specs.Naming.{size_at}

module _ (m : SchemeModel) (xs : List Attribute) (list : map attribute_of xs ≡ m.attributes) (i : ℕ) where
  sizes : map (λ (a : Attribute). a.size) xs ≡ map (λ (a : AttributeModel). a.size) m.attributes
  sizes = sym (map-map (λ (a : AttributeModel). a.size) attribute_of xs) ∙ ap (map (λ (a : AttributeModel). a.size)) list

  pub size_in : (d : Attribute) → i < length xs → (get_or xs i d).size ≡ size_at m i
  unfolding size_at
  size_in d h = sym (get_or-map (λ (a : Attribute). a.size) xs i d 0 h) ∙ ap (λ l. get_or l i 0) sizes

  pub size_past : length xs ≤ i → 0 ≡ size_at m i
  unfolding size_at
  size_past h = sym (ap (λ l. get_or l i 0) (sym sizes) ∙ get_or_past (map (λ (a : Attribute). a.size) xs) i 0 (omega (arith, length-map xs (λ (a : Attribute). a.size))))
