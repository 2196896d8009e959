-- A refused move ends the replay; a granted one goes on; at the end all were granted.
use Rattle.std.proofs.Common.{◌≡◌, ℕ, ◌+◌, List, get_or, Ok, Err, sym, ap, ◌∙◌, subst, arith}
use Rattle.std.proofs.lemmas.Result.{err_from_is_err_and}
use Rattle.protection.specs.Systems.{System, system_of}
use Rattle.protection.specs.Refusals.{numbered}
use Rattle.protection.specs.Histories.{enforce, enforce_answer, after}
use Rattle.monitor.specs.declared.denial.Denial.{Denial}
use Rattle.monitor.specs.Denials.{denial_values}
use Rattle.monitor.specs.Replays.{replay_answer, replay_leaves}
use Rattle.monitor.proofs.ReplayLaws as laws
use Rattle.monitor.proofs.Monitor.replay.Goals as goal

pub returns-in_err-enforce : goal.returns-in_err-enforce
returns-in_err-enforce g c =
    let system : System = system_of (g.S.Walk.model c.args.self.now.system) (g.S.System.labels c.args.self.now.system) in
    let s : ℕ = c.args.self.now.state in
    let here : ℕ = c.loop-mv.self.state in
    let moves : List ℕ = c.args.moves.now in
    let d : Denial = c.in_err-enforce.field-0.0 in
    let p = err_from_is_err_and c.from_residual.result c.from_residual.ensures.1 in
    let h = c.in_err-enforce.ensures in
    let now_here : system_of (g.S.Walk.model c.loop-mv.self.system) (g.S.System.labels c.loop-mv.self.system) ≡ system
    = ap (λ x. system_of (g.S.Walk.model x) (g.S.System.labels x)) c.loop-mv.invariant.0 in
    let refused : Err (denial_values d) ≡ enforce_answer system here (get_or moves c.loop-mv.mv-index 0)
    = h.answer ∙ ap (λ (y : System). enforce_answer y here (get_or moves c.loop-mv.mv-index 0)) now_here in
    let ends = laws.rest_stops system here moves c.loop-mv.mv-index (replay_answer system s moves) (replay_leaves system s moves)
    c.loop-mv.invariant.1 (denial_values d) (omega arith) refused in
    let answer : numbered denial_values c.from_residual.result ≡ replay_answer system s moves
    = ap (numbered denial_values) (p.1 ∙ ap Err p.2) ∙ ends.0 in
    let state : c.enforce.new.self.state ≡ replay_leaves system s moves
    = h.state ∙ (ap (λ (y : System). after y here (enforce (get_or moves c.loop-mv.mv-index 0))) now_here
    ∙ (laws.refused_stays system here (get_or moves c.loop-mv.mv-index 0) (denial_values d) refused ∙ ends.1)) in
    record {
      answer = answer;
      state = state;
      system = h.system ∙ c.loop-mv.invariant.0;
      makes_moves_in_turn = laws.replay_law system s moves (numbered denial_values c.from_residual.result) c.enforce.new.self.state answer state;
    }

pub loop-mv-preserved : goal.loop-mv-preserved
loop-mv-preserved g c =
    let system : System = system_of (g.S.Walk.model c.args.self.now.system) (g.S.System.labels c.args.self.now.system) in
    let s : ℕ = c.args.self.now.state in
    let here : ℕ = c.loop-mv.self.state in
    let moves : List ℕ = c.args.moves.now in
    let m : ℕ = get_or moves c.loop-mv.mv-index 0 in
    let h = c.in_ok-enforce.ensures in
    let now_here : system_of (g.S.Walk.model c.loop-mv.self.system) (g.S.System.labels c.loop-mv.self.system) ≡ system
    = ap (λ x. system_of (g.S.Walk.model x) (g.S.System.labels x)) c.loop-mv.invariant.0 in
    let on = laws.rest_more system here moves c.loop-mv.mv-index (replay_answer system s moves) (replay_leaves system s moves)
    c.loop-mv.invariant.1 c.in_ok-enforce.field-0 (omega arith) (h.answer ∙ ap (λ (y : System). enforce_answer y here m) now_here) in (
      h.system ∙ c.loop-mv.invariant.0,
      subst (λ (t : ℕ). laws.Rest system t moves (c.loop-mv.mv-index + 1) (replay_answer system s moves) (replay_leaves system s moves))
          (sym (h.state ∙ ap (λ (y : System). after y here (enforce m)) now_here)) on,
    )

pub returns : goal.returns
returns g c =
    let system : System = system_of (g.S.Walk.model c.args.self.now.system) (g.S.System.labels c.args.self.now.system) in
    let s : ℕ = c.args.self.now.state in
    let moves : List ℕ = c.args.moves.now in
    let done = laws.rest_done system c.loop-mv.self.state moves c.loop-mv.mv-index (replay_answer system s moves) (replay_leaves system s moves)
    c.loop-mv.invariant.1 (omega arith) in
    record {
      answer = done.0;
      state = done.1;
      system = c.loop-mv.invariant.0;
      makes_moves_in_turn = laws.replay_law system s moves (Ok tt) c.loop-mv.self.state done.0 done.1;
    }
