use Rattle.std.proofs.Common.{◌∙◌}
use Rattle.record.specs.Schemes.{scheme_of}
use Rattle.record.proofs.Labelling.{label_is}
use Rattle.record.proofs.record.Scheme.label.Goals as goal

pub returns-clause-numbered : goal.returns-clause-numbered
returns-clause-numbered c p s o is = c.label_at.ensures ∙ label_is (scheme_of c.args.self.now) c.args.mv p s o is
