-- All worked examples, by their subjects: facts about the definitions, worked out by hand from the
-- documents.
use Rattle.worked_examples.specs.Words.{Words}
use Rattle.worked_examples.specs.Cutting.{Cutting}
use Rattle.worked_examples.specs.Order.{Order}
use Rattle.worked_examples.specs.Roles.{Roles}
use Rattle.worked_examples.specs.Limits.{Limits}
use Rattle.worked_examples.specs.Declared.{Declared}
use Rattle.worked_examples.specs.Names.{Names}
use Rattle.worked_examples.specs.RefusedTexts.{RefusedTexts}
use Rattle.worked_examples.specs.Ranks.{Ranks}
use Rattle.worked_examples.specs.RefusalNumbers.{RefusalNumbers}
use Rattle.worked_examples.specs.Predicates.{Predicates}
use Rattle.worked_examples.specs.Actions.{Actions}
use Rattle.worked_examples.specs.Steps.{Steps}
use Rattle.worked_examples.specs.Numbers.{Numbers}
use Rattle.worked_examples.specs.Permissions.{Permissions}
use Rattle.worked_examples.specs.Tables.{TwoStates, ThreeStates, OneLabel}
use Rattle.worked_examples.specs.TableRefusals.{TableRefusals}
use Rattle.worked_examples.specs.Locks.{Locks}
use Rattle.worked_examples.specs.Reports.{Reports}

pub record WorkedExamples : Type 0 where
  -- texts: words, lines, what they declare, and how they are refused
  pub words : Words
  pub cutting : Cutting
  pub order : Order
  pub roles : Roles
  pub limits : Limits
  pub declared : Declared
  pub names : Names
  pub refused_texts : RefusedTexts
  pub ranks : Ranks
  pub refusal_numbers : RefusalNumbers
  -- schemes: predicates, actions, steps and numbers
  pub predicates : Predicates
  pub actions : Actions
  pub steps : Steps
  pub numbers : Numbers
  -- protection systems given by numbers, and locks
  pub permissions : Permissions
  pub two_states : TwoStates
  pub three_states : ThreeStates
  pub one_label : OneLabel
  pub table_refusals : TableRefusals
  pub locks : Locks
  -- whole reports, with the schemes that they are about
  pub reports : Reports
