-- The scheme that a text declares, or the fault that it is refused with.
use Rattle.std.specs.Prelude.{ℕ, ◌+◌, Bool, cond, ◌&&◌, List, [], ◌∷◌, length, Some, None, Ok, Err, Option, Result, nat_le}
use Rattle.scheme.specs.declared.kind.Kind.{Kind}
use Rattle.scheme.specs.Models.{SchemeModel, bare_model}
use Rattle.scheme.specs.Counts.{state_count}
use Rattle.words.specs.declared.fault.WordFault.TheVariants.{LongText}
use Rattle.words.specs.Outcomes.{and_then, carried}
use Rattle.words.specs.Positions.{PlainLine, PlainWord}
use Rattle.words.specs.Cuts.{words_of, text_lines}
use Rattle.lines.specs.declared.fault.LineFault.TheVariants.{OfWords}
use Rattle.text.specs.declared.fault.SchemeFault.{SchemeFault}
use Rattle.text.specs.declared.fault.SchemeFault.TheVariants.{OfLine, Missing, States}
use Rattle.lines.specs.Lines.{formed_line}
use Rattle.text.specs.Naming.{under_most, right_names}
use Rattle.text.specs.Declaring.{declared}

-- what the lines so far declare, and the kind of the last one with a word
pub record Progress : Type 0 where
  pub scheme : SchemeModel
  pub last : Option Kind

abbrev pub start : Progress
start = record { scheme = bare_model; last = None }

-- a line of a kind, whose words have the right forms
abbrev pub named_line : Kind → List PlainWord → SchemeModel → Result SchemeModel SchemeFault
named_line k ws m = and_then (under_most k m ws) (λ _. and_then (right_names m k ws) (λ _. Ok (declared k ws m)))

abbrev pub read_kind : Progress → List PlainWord → Option Kind → Result Progress SchemeFault
read_kind p ws None = Ok p
read_kind p ws (Some k) = and_then (named_line k ws p.scheme) (λ m. Ok (record { scheme = m; last = Some k }))

-- one line more
abbrev pub read_line : Progress → PlainLine → Result Progress SchemeFault
read_line p l = and_then (carried OfLine (formed_line p.last (length p.scheme.attributes) l)) (read_kind p (words_of l))

-- a scheme has an attribute, a right and an object
abbrev pub complete : SchemeModel → Bool
complete m = nat_le 1 (length m.attributes) && (nat_le 1 (length m.rights) && nat_le 1 (length m.objects))

abbrev pub few_states : SchemeModel → Bool
few_states m = nat_le (state_count m) 1048576

-- the end of a text; n is the line after the last
abbrev pub finished : ℕ → SchemeModel → Result SchemeModel SchemeFault
finished n m =
    cond (complete m)
    (cond (few_states m) (Ok m) (Err (States (record { line = n; place = 1 }))))
    (Err (Missing (record { line = n; place = 1 })))

abbrev pub read_lines : ℕ → List PlainLine → Progress → Result SchemeModel SchemeFault
read_lines n [] p = finished n p.scheme
read_lines n (l ∷ ls) p = and_then (read_line p l) (read_lines (n + 1) ls)

abbrev pub reading : List ℕ → Result SchemeModel SchemeFault
reading text = cond (nat_le (length text) 65535) (read_lines 1 (text_lines text) start) (Err (OfLine (OfWords LongText)))
