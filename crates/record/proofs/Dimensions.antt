-- The numbering of a scheme record is that of its attributes and objects.
use Rattle.std.proofs.Common.{◌≡◌, ◌^◌, ap, ◌∙◌}
use Rattle.scheme.specs.Sizes.{sizes_of, size_states}
use Rattle.scheme.specs.Counts.{state_count}
use Rattle.record.specs.declared.record.Scheme.{Scheme}
use Rattle.record.specs.Numberings.{Dimensions, dimensions_of}
use Rattle.record.specs.Systems.{object_count}
use Rattle.record.specs.Schemes.{scheme_of}

pub dimensions : (s : Scheme) → dimensions_of s.numbering ≡ record { sizes = sizes_of (scheme_of s); objects = object_count (scheme_of s) }
dimensions s =
    ap (λ ks. record { sizes = ks; objects = (dimensions_of s.numbering).objects }) s.sized
    ∙ ap (λ n. record { sizes = sizes_of (scheme_of s); objects = n }) s.numbered

pub states_counted : (s : Scheme) → size_states (dimensions_of s.numbering).sizes ^ (dimensions_of s.numbering).objects ≡ state_count (scheme_of s)
states_counted s = ap (λ (d : Dimensions). size_states d.sizes ^ d.objects) (dimensions s)
