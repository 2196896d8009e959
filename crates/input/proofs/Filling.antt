-- A read into the rest of a buffer.
use Rattle.std.proofs.Common.{◌≡◌, ℕ, ◌+◌, ◌≤◌, List, ◌++◌, length, take, Option, Some, None, sym, ap, ◌∙◌}
use Rattle.std.proofs.lemmas.List.{length-take-le, take-append-le, append_assoc}
use Rattle.std.proofs.Math.Seq.{take-append-add}
use Rattle.std.specs.Io.KnownBytes.{Consumes, Keeps}
use borrow.Rule.Slice.PartMut.{put_mid, post_of}

-- n bytes more stand behind the first a
pub take_read : (a n k : ℕ) (xs ys : List ℕ) → a ≤ length xs → n ≤ length ys → take (a + n) (put_mid a k xs ys) ≡ take a xs ++ take n ys
take_read a n k xs ys inside few =
    ap (λ i. take (i + n) (put_mid a k xs ys)) (sym (length-take-le a xs inside))
    ∙ take-append-add (take a xs) (ys ++ post_of a k xs) n
    ∙ ap (λ l. take a xs ++ l) (take-append-le n ys (post_of a k xs) few)

-- what is consumed in turn is consumed
pub consumes_more : (left : Option (List ℕ)) (mid rest : Option (List ℕ)) (first second : List ℕ) → Consumes left mid first → Consumes mid rest second → Consumes left rest (first ++ second)
consumes_more None mid rest first second one two = tt
consumes_more (Some xs) None rest first second one two = elim one [ ]
consumes_more (Some xs) (Some ys) None first second one two = elim two [ ]
consumes_more (Some xs) (Some ys) (Some zs) first second one two =
    one ∙ ap (λ l. first ++ l) two ∙ sym (append_assoc first second zs)

-- what was consumed before a read that fails is all that was consumed
pub consumes_kept : (left mid rest : Option (List ℕ)) (first : List ℕ) → Consumes left mid first → Keeps mid rest → Consumes left rest first
consumes_kept None mid rest first one kept = tt
consumes_kept (Some xs) None rest first one kept = elim one [ ]
consumes_kept (Some xs) (Some ys) None first one kept = elim kept [ ]
consumes_kept (Some xs) (Some ys) (Some zs) first one kept = one ∙ ap (λ l. first ++ l) (sym kept)
