use Rattle.std.proofs.Common.{◌≡◌, drop}
use Rattle.codes.specs.Meanings.{sizes_in}
use Rattle.enforcement.specs.Actions.{ran}
use Rattle.enforcement.specs.Coded.{Coded, on_codes}
use Rattle.enforcement.proofs.parties.CodedPair.run.Given as goal

-- what is left to run leads to the same end
abbrev pub invariant-loop-action : goal.invariant-loop-action
invariant-loop-action l = record {
  same_end : on_codes (sizes_in l.codes) (ran (sizes_in l.codes) (drop l.action-index l.actions)) l.pair
      ≡ on_codes (sizes_in l.codes) (ran (sizes_in l.codes) l.actions) l.initial.pair;
  coded : Coded (sizes_in l.codes) l.pair;
}
