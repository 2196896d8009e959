-- Bytes appended part by part, and an element at a time.
use Rattle.std.proofs.Common.{◌≡◌, ℕ, ◌+◌, ◌<◌, ◌≤◌, true, List, [], ◌∷◌, ◌++◌, length, get_or, take, drop, is_err, Ok, Err, Result, Vec, sym, ap, ◌∙◌, subst, append_assoc, append-nil, arith, length-append}
use Rattle.std.specs.List.{flat_map}
use Rattle.std.proofs.lemmas.List.{take_all, take-append-drop, take_more, drop_more}
use Rattle.std.proofs.lemmas.Grind.{flat_map-append}
use Rattle.std.proofs.lemmas.Result.{MatchResult-from_err}
use Rattle.std.specs.declared.alloc.AllocError.{AllocError}
use Rattle.std.specs.declared.alloc.Global.{Global}
use Rattle.render.specs.Appended.{Grown, Short, Appended}

abbrev Bytes : Type 0
Bytes = Vec ℕ Global

-- the parts xs and ys, in turn

pub grown_then : (u v w : Bytes) (xs ys : List ℕ) → Grown u v xs → Grown v w ys → Grown u w (xs ++ ys)
grown_then u v w xs ys p q = record {
  items = q.items ∙ (ap (λ (l : List ℕ). l ++ ys) p.items ∙ append_assoc _ xs ys);
  len = simp length-append (omega (arith, p.len, q.len));
  cap = omega (arith, p.cap, q.cap);
}

pub short_first : (u v : Bytes) (xs ys : List ℕ) → Short u v xs → Short u v (xs ++ ys)
short_first u v xs ys p = record {
  front = p.front;
  rest = p.rest ++ ys;
  parts = ap (λ (l : List ℕ). l ++ ys) p.parts ∙ append_assoc p.front p.rest ys;
  grown = p.grown;
  room = simp length-append (omega (arith, p.room));
}

pub short_then : (u v w : Bytes) (xs ys : List ℕ) → Grown u v xs → Short v w ys → Short u w (xs ++ ys)
short_then u v w xs ys p q = record {
  front = xs ++ q.front;
  rest = q.rest;
  parts = ap (λ (l : List ℕ). xs ++ l) q.parts ∙ sym (append_assoc xs q.front q.rest);
  grown = grown_then u v w xs q.front p q.grown;
  room = simp length-append (omega (arith, p.len, p.cap, q.room));
}

-- after the part xs the answer to ys is that to both
pub appended_then : (r : Result (Unit {0}) AllocError) (u v w : Bytes) (xs ys : List ℕ) → Grown u v xs → Appended r v w ys → Appended r u w (xs ++ ys)
appended_then (Ok x) u v w xs ys p q = grown_then u v w xs ys p q
appended_then (Err e) u v w xs ys p q = short_then u v w xs ys p q

-- the exit of a `?` answers that there was too little room
pub at_exit : (r : Result (Unit {0}) AllocError) (u v : Bytes) (bs : List ℕ) → is_err r ≡ true → Short u v bs → Appended r u v bs
at_exit r u v bs e p = MatchResult-from_err r _ _ e (λ _. p)

-- what f gives of each element, one after another: the elements before the i-th, the i-th, and those after it

joined_at : {A : Type 0} (f : A → List ℕ) (xs : List A) (i : ℕ) (d : A) → i < length xs
    → flat_map f (take i xs) ++ (f (get_or xs i d) ++ flat_map f (drop (i + 1) xs)) ≡ flat_map f xs
joined_at f xs i d h =
    sym (flat_map-append f (take i xs) (get_or xs i d ∷ drop (i + 1) xs))
    ∙ ap (λ l. flat_map f (take i xs ++ l)) (sym (drop_more xs i d h))
    ∙ ap (flat_map f) (take-append-drop i xs)

joined_more : {A : Type 0} (f : A → List ℕ) (xs : List A) (i : ℕ) (d : A) → i < length xs
    → flat_map f (take i xs) ++ f (get_or xs i d) ≡ flat_map f (take (i + 1) xs)
joined_more f xs i d h =
    ap (λ (l : List ℕ). flat_map f (take i xs) ++ l) (sym (append-nil (f (get_or xs i d))))
    ∙ sym (flat_map-append f (take i xs) (get_or xs i d ∷ []))
    ∙ ap (flat_map f) (sym (take_more xs i d h))

-- a loop over xs: a turn at an element, an exit there, and the end
pub grown_more : {A : Type 0} (f : A → List ℕ) (xs : List A) (i : ℕ) (d : A) (u v w : Bytes) → i < length xs
    → Grown u v (flat_map f (take i xs)) → Grown v w (f (get_or xs i d)) → Grown u w (flat_map f (take (i + 1) xs))
grown_more f xs i d u v w h p q =
    subst (Grown u w) (joined_more f xs i d h) (grown_then u v w (flat_map f (take i xs)) (f (get_or xs i d)) p q)

pub short_at : {A : Type 0} (f : A → List ℕ) (xs : List A) (i : ℕ) (d : A) (u v w : Bytes) → i < length xs
    → Grown u v (flat_map f (take i xs)) → Short v w (f (get_or xs i d)) → Short u w (flat_map f xs)
short_at f xs i d u v w h p q =
    subst (Short u w) (joined_at f xs i d h)
    (short_then u v w (flat_map f (take i xs)) _ p (short_first v w (f (get_or xs i d)) (flat_map f (drop (i + 1) xs)) q))

pub grown_all : {A : Type 0} (f : A → List ℕ) (xs : List A) (i : ℕ) (u v : Bytes) → length xs ≤ i
    → Grown u v (flat_map f (take i xs)) → Grown u v (flat_map f xs)
grown_all f xs i u v h p = subst (Grown u v) (ap (flat_map f) (take_all i xs h)) p
