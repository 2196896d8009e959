use Rattle.std.proofs.Common.{rules}
use Rattle.scheme.specs.Models.{predicate_room, action_room}
use Rattle.scheme.proofs.Last.{last_asked}
use Rattle.scheme.proofs.draft.Draft.has_room.Goals as goal

pub returns-in-If : goal.returns-in-If
returns-in-If c =
    let told = last_asked predicate_room c.policies.result.now c.last.result c.is_some_and.result c.last.ensures.value (search rules) in
    search rules

pub returns-in-Do : goal.returns-in-Do
returns-in-Do c =
    let told = last_asked action_room c.policies-in-Do.result.now c.last-in-Do.result c.is_some_and-in-Do.result c.last-in-Do.ensures.value (search rules) in
    search rules
