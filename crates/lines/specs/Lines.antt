-- The kind of a line whose words have the forms that its kind asks.
use Rattle.std.specs.Prelude.{ℕ, cond, ◌||◌, List, [], ◌∷◌, length, Some, None, Ok, Err, Option, Result, ◌==◌}
use Rattle.words.specs.Outcomes.{and_then, carried, in_turn}
use Rattle.words.specs.Positions.{PlainLine, PlainWord, spot_of, word_in}
use Rattle.words.specs.Cuts.{words_of}
use Rattle.words.specs.Tokens.{form_of}
use Rattle.words.specs.Plain.{plain_line}
use Rattle.scheme.specs.declared.kind.Kind.{Kind}
use Rattle.lines.specs.declared.fault.LineFault.{LineFault}
use Rattle.lines.specs.declared.fault.LineFault.TheVariants as fault
use Rattle.lines.specs.Kinds.{kind_in, in_order, count_allowed}
use Rattle.lines.specs.Roles.{role_at, fits}

abbrev pub ordered_kind : Option Kind → PlainWord → Option Kind → Result (Option Kind) LineFault
ordered_kind last w None = Err (fault.Kind (spot_of w))
ordered_kind last w (Some k) = cond (in_order last k) (Ok (Some k)) (Err (fault.Kind (spot_of w)))

-- the kind of a line below one of kind `last`; none for a line with no word
abbrev pub line_kind : Option Kind → List PlainWord → Result (Option Kind) LineFault
line_kind last [] = Ok None
line_kind last (w ∷ ws) = ordered_kind last w (kind_in w.bytes)

abbrev pub right_count : Kind → ℕ → List PlainWord → Result (Unit {0}) LineFault
right_count k attributes ws = cond (count_allowed k attributes (length ws)) (Ok tt) (Err (fault.Count (spot_of (word_in ws 0))))

abbrev pub form_check : Kind → List PlainWord → ℕ → PlainWord → Result (Unit {0}) LineFault
form_check k ws i w = cond (i == 0 || fits (role_at k ws i) (form_of w.bytes)) (Ok tt) (Err (fault.Form (spot_of w)))

-- each word behind the first, from the left
abbrev pub right_forms : Kind → List PlainWord → Result (Unit {0}) LineFault
right_forms k ws = in_turn (form_check k ws) 0 ws

abbrev pub formed_as : Kind → ℕ → List PlainWord → Result (Unit {0}) LineFault
formed_as k attributes ws = and_then (right_count k attributes ws) (λ _. right_forms k ws)

abbrev pub formed_kind : ℕ → List PlainWord → Option Kind → Result (Option Kind) LineFault
formed_kind attributes ws None = Ok None
formed_kind attributes ws (Some k) = and_then (formed_as k attributes ws) (λ _. Ok (Some k))

-- first the words, then the kind, then the count and the forms
abbrev pub formed_line : Option Kind → ℕ → PlainLine → Result (Option Kind) LineFault
formed_line last attributes l =
    and_then (carried fault.OfWords (plain_line l))
    (λ _. and_then (line_kind last (words_of l)) (formed_kind attributes (words_of l)))
