-- What a reader has read, as the progress that the definitions speak of.
use Rattle.scheme.specs.Drafts.{draft_of}
use Rattle.text.specs.declared.reader.Reader.{Reader}
use Rattle.text.specs.Reading.{Progress}

abbrev pub progress_of : Reader → Progress
progress_of r = record { scheme = draft_of r.draft; last = r.last }
