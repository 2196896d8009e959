-- The verdict, and then the moves.
use Rattle.std.proofs.Common.{ℕ, List, subst}
use Rattle.std.specs.List.{flat_map}
use Rattle.scheme.specs.Models.{SchemeModel}
use Rattle.scheme.specs.Drafts.{draft_of}
use Rattle.protection.specs.Answers.{verdict_values}
use Rattle.render.specs.Appended.{Appended}
use Rattle.render.proofs.Appending.{appended_then}
use Rattle.report.specs.Moves.{by_line}
use Rattle.report.specs.Answers.{verdict_line}
use Rattle.report.proofs.answers.Asked.put_evidence.Goals as goal

pub returns : goal.returns
returns c =
    let m : SchemeModel = draft_of c.args.self.draft.now in
    appended_then _ _ _ _ (verdict_line m c.args.self.query (verdict_values c.args.verdict)) _ c.in_ok-put_verdict.ensures
    (subst (λ (moves : List ℕ). Appended c.put_moves.result c.put_verdict.new.out c.put_moves.new.out (flat_map (by_line m) moves))
    c.witness_in.ensures c.put_moves.ensures)
