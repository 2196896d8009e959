-- A push onto a bounded list that has room.
use Rattle.std.proofs.Common.{◌≡◌, ℕ, ◌<◌, Bool, cond, ltb, List, [], ◌∷◌, ◌++◌, length, ap, ◌∙◌}
use Rattle.std.proofs.lemmas.Bool.{lt-ltb}

module _ {X : Type 0} (before after : List X) (x : X) (N : ℕ) (room : Bool) (free : length before < N) (has_room : room ≡ ltb (length before) N) (left : after ≡ cond room (before ++ x ∷ []) before) where
  pub pushed : after ≡ before ++ x ∷ []
  pushed = left ∙ ap (λ t. cond t (before ++ x ∷ []) before) (has_room ∙ lt-ltb (length before) N free)
