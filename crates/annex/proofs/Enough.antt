-- The first 65,536 bytes of an input are read as all of it is.
use Rattle.std.proofs.Common.{◌≡◌, ℕ, ◌<◌, Bool, true, false, cond, leb, List, length, take, Some, None, Ok, Err, Option, Result, IfSome, IfOk, OnOk, MatchResult, is_ok, sym, refl, ap, ◌∙◌, subst, arith}
use Rattle.std.proofs.lemmas.Bool.{false≢true, leb-true, leb-false}
use Rattle.std.proofs.lemmas.List.{take_all, length-take-le}
use Rattle.words.specs.declared.fault.WordFault.TheVariants.{LongText}
use Rattle.words.specs.Cuts.{text_lines}
use Rattle.lines.specs.declared.fault.LineFault.TheVariants.{OfWords}
use Rattle.text.specs.declared.fault.SchemeFault.TheVariants.{OfLine}
use Rattle.text.specs.Reading.{reading, read_lines, start}

too_long : (text : List ℕ) → leb (length text) 65535 ≡ false → reading text ≡ Err (OfLine (OfWords LongText))
too_long text long = ap (λ (b : Bool). cond b (read_lines 1 (text_lines text) start) (Err (OfLine (OfWords LongText)))) long

enough : (text : List ℕ) → reading (take 65536 text) ≡ reading text
enough text = go (leb (length text) 65535) refl
  where
    go : (short : Bool) → leb (length text) 65535 ≡ short → reading (take 65536 text) ≡ reading text
    go true short = ap reading (take_all 65536 text (omega (arith, leb-true _ _ short)))
    go false long =
        let more : 65535 < length text = leb-false _ _ long in
        let cut : length (take 65536 text) ≡ 65536 = length-take-le 65536 text (omega arith) in
        too_long (take 65536 text) (ap (λ (n : ℕ). leb n 65535) cut) ∙ sym (too_long text long)

-- so what follows of how the bytes that came are read follows of all that was left, where that is known
pub of_all_left : (left : Option (List ℕ)) (text : List ℕ) (P : List ℕ → Type 0) → IfSome left (λ all. text ≡ take 65536 all)
    → ((all : List ℕ) → reading text ≡ reading all → P all) → IfSome left P
of_all_left None text P first follows = tt
of_all_left (Some all) text P first follows = follows all (ap reading first ∙ enough all)

-- errors that are renamed: what was said of the value stays

pub kept_value : {A E F : Type 0} (r : Result A E) (s : Result A F) (x : A) (P : A → Type 0) (Q : E → Type 0) → is_ok s ≡ is_ok r
    → MatchResult r (λ v. s ≡ Ok v) Q → s ≡ Ok x → IfOk r P → P x
kept_value (Ok v) s x P Q same is was holds = let value : v ≡ x = cc in subst P value holds
kept_value (Err e) s x P Q same is was holds = let none : true ≡ false = cc in absurd (false≢true (sym none))

pub kept_outcome : {A E F : Type 0} (r : Result A E) (s : Result A F) (P : Type 0) → is_ok s ≡ is_ok r → OnOk r P → OnOk s P
kept_outcome (Ok v) (Ok w) P same holds = holds
kept_outcome (Ok v) (Err f) P same holds = tt
kept_outcome (Err e) (Ok w) P same holds = absurd (false≢true (sym same))
kept_outcome (Err e) (Err f) P same holds = tt
