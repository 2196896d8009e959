use Rattle.std.proofs.Common.{rules, ◌-◌, length, take, subst, sym, arith}
use Rattle.std.proofs.lemmas.List.{length-take-le}
use Rattle.std.proofs.lemmas.Result.{MatchResult-from_err}
use Rattle.std.specs.Io.KnownBytes.{Consumes}
use Rattle.input.proofs.Filling.{take_read, consumes_more, consumes_kept}
use Rattle.input.proofs.read_up_to.Goals as goal

pub loop-len-preserved : goal.loop-len-preserved
loop-len-preserved g c =
    let more = take_read c.loop-len.len c.in_ok-n.n (length c.loop-len.buffer - c.loop-len.len) c.loop-len.buffer c.read.new.buf c.loop-len.invariant.0 c.in_ok-n.ensures.bound.0 in
    (search rules, search rules, subst (Consumes (g.R.Read.remaining c.args.input.now) (g.R.Read.remaining c.read.new.self)) (sym more) (consumes_more _ _ _ _ _ c.loop-len.invariant.2 c.in_ok-n.ensures.bytes.0))

pub returns-in_err-n-clause-taken : goal.returns-in_err-n-clause-taken
returns-in_err-n-clause-taken g c =
    let read = take c.loop-len.len c.loop-len.buffer in
    MatchResult-from_err c.from_residual.result _ _ c.from_residual.ensures.0
    (λ _. (
      read,
      omega (arith, length-take-le c.loop-len.len c.loop-len.buffer c.loop-len.invariant.0, c.loop-len.invariant.1),
      consumes_kept _ _ _ read c.loop-len.invariant.2 c.in_err-n.ensures.bytes,
    ))
