-- The line that tells a move.
use Rattle.std.specs.Prelude.{ℕ, List, [], ◌∷◌, length, codes}
use Rattle.scheme.specs.Models.{SchemeModel}
use Rattle.render.specs.Lines.{line}
use Rattle.record.specs.declared.moves.Move.{Move}
use Rattle.record.specs.Moves.{move_at}
use Rattle.report.specs.Names.{object_name, policy_name}

abbrev pub applied_line : SchemeModel → Move → List ℕ
applied_line m x = line (codes "by") (policy_name m x.policy ∷ object_name m x.subject ∷ object_name m x.object ∷ [])

abbrev pub by_line : SchemeModel → ℕ → List ℕ
by_line m v = applied_line m (move_at (length m.objects) v)
