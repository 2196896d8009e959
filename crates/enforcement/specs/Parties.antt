-- The two objects that a policy is applied to.
use Rattle.scheme.specs.declared.terms.Party.{Party}
use Rattle.scheme.specs.declared.terms.Party.TheVariants.{Subject, Object}
use Rattle.codes.specs.Objects.{ObjectState}

pub record Parties : Type 0 where
  pub subject : ObjectState
  pub object : ObjectState

abbrev pub party_in : Party → Parties → ObjectState
party_in Subject p = p.subject
party_in Object p = p.object

abbrev pub with_party : Party → Parties → ObjectState → Parties
with_party Subject p x = record { subject = x; object = p.object }
with_party Object p x = record { subject = p.subject; object = x }
