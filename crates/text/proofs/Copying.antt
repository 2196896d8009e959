-- The copy of a name, and the values of an object line one after another.
use Rattle.std.proofs.Common.{◌≡◌, ℕ, ◌+◌, cond, leb, List, [], ◌∷◌, map, refl, length, Some, None, Option, unwrap_or, ap, ◌∙◌, arith}
use Rattle.std.specs.Option.{option_map}
use Rattle.std.specs.List.{range_with_len}
use Rattle.std.proofs.lemmas.Bool.{le-leb}
use Rattle.scheme.specs.Models.{AttributeModel}
use Rattle.words.specs.Positions.{PlainWord, word_in}
use Rattle.words.specs.Tokens.{name, form_of}
use Rattle.words.proofs.Lengths.{name_short}
use Rattle.text.specs.Declaring.{value_in, values_at}

module _ {X : Type 0} (items : X → List ℕ) where
  copied : (o : Option X) (d : X) (b : List ℕ) → option_map items o ≡ Some b → items (unwrap_or o d) ≡ b
  copied None d b e = let z : ◌≡◌ {A = ℕ} 0 1 = cc in absurd (omega arith)
  copied (Some x) d b e = cc

  pub name_copied : (o : Option X) (d : X) (w b : List ℕ) → name b ≡ form_of w → option_map items o ≡ cond (leb (length b) 15) (Some b) None → items (unwrap_or o d) ≡ b
  name_copied o d w b is made = copied o d b (made ∙ ap (λ t. cond t (Some b) None) (le-leb (length b) 15 (name_short w b is)))

-- the values of the words from index i on, one for each attribute
pub values_listed : (i : ℕ) (al : List AttributeModel) (ws : List PlainWord) → map (λ k. value_in (word_in ws k)) (range_with_len i (length al)) ≡ values_at i al ws
values_listed i [] ws = refl
values_listed i (a ∷ al) ws = ap (λ l. value_in (word_in ws i) ∷ l) (values_listed (i + 1) al ws)
