use Rattle.text.proofs.Whole.{reading_as_the_table_says}
use Rattle.text.proofs.Sound.{reading_accepted}
use Rattle.text.proofs.Limits.{reading_writable}
use Rattle.text.proofs.WritingWhole.{reads_back}
use Rattle.text.proofs.Wording.{says_if_accepted}
use Rattle.text.proofs.Exactly.{accepted_exactly}
use Rattle.text.proofs.read.read.Goals as goal

pub returns-clause-answered_as_the_table_says : goal.returns-clause-answered_as_the_table_says
returns-clause-answered_as_the_table_says c = reading_as_the_table_says c.args.text.now _ c.read_text.ensures.result

pub returns-clause-accepted : goal.returns-clause-accepted
returns-clause-accepted c = reading_accepted c.args.text.now

pub returns-clause-every_scheme_is_written : goal.returns-clause-every_scheme_is_written
returns-clause-every_scheme_is_written c = reads_back

pub returns-clause-writable : goal.returns-clause-writable
returns-clause-writable c = reading_writable c.args.text.now

pub returns-clause-says_what_it_declares : goal.returns-clause-says_what_it_declares
returns-clause-says_what_it_declares c = says_if_accepted c.args.text.now _ _ c.read_text.ensures.result

pub returns-clause-accepted_exactly : goal.returns-clause-accepted_exactly
returns-clause-accepted_exactly c m = accepted_exactly c.args.text.now m _ c.read_text.ensures.result
