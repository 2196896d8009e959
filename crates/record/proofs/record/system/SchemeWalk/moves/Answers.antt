use Rattle.std.proofs.Common.{length, sym, ap, ◌∙◌, subst}
use Rattle.record.specs.Schemes.{scheme_of}
use Rattle.record.specs.SystemLaws.{moves_counted}
use Rattle.record.specs.Numbers.{NumbersMoves}
use Rattle.record.proofs.Numbered.{numbers_moves}
use Rattle.record.proofs.record.system.SchemeWalk.moves.Goals as goal

pub returns-clause-numbers_the_moves : goal.returns-clause-numbers_the_moves
returns-clause-numbers_the_moves c =
    let s = c.args.self.now in
    subst (NumbersMoves (scheme_of s)) (sym (ap length c.as_slice.ensures ∙ moves_counted s)) (numbers_moves (scheme_of s))
