-- Meaning. The nets' own names, and what a text names. Source: this project's own choice.
use Rattle.std.specs.Prelude.{ℕ, zero, suc, ◌==◌, ◌∷◌, ◌++◌, [], List, Option, None, Some, Bool, length, drop, bytes_eq, codes, if◌then◌else◌, option_and_then}
use Rattle.std.specs.Fmt.{decimal}
use Rattle.blif_lines.specs.Lines.{before}
use Rattle.blif_syntax.specs.declared.models.Model.{Model}
use Rattle.blif_syntax.specs.Words.{is_one_of}
use Rattle.hierarchy.specs.Lines.{signals, use_lines}
use Rattle.hierarchy.specs.Instances.{had_by, model_at}
use Rattle.hierarchy.specs.Nets.{InstanceSignal, home, number_at}

-- the numbers of a path, the outermost first, each followed by a slash
abbrev pub path_text : List ℕ → List ℕ
path_text [] = []
path_text (number ∷ above) = path_text above ++ (decimal number ++ codes "/")

-- the own name of a net: its instance's path, then the signal
abbrev pub own_name : InstanceSignal → List ℕ
own_name net = path_text net.path ++ net.signal

-- the own name of the net of a signal of an instance
abbrev pub name_at : List Model → List ℕ → List ℕ → List ℕ
name_at models path signal = own_name (home models path signal)

-- the number below `count` that a text is, in decimal digits without leading zeros
abbrev pub number_below : ℕ → List ℕ → Option ℕ
number_below zero text = None
number_below (suc count) text =
    if bytes_eq (decimal count) text then Some count else number_below count text

-- the character that parts the numbers of a path
abbrev pub is_slash : ℕ → Bool
is_slash byte = byte == 47

-- The net that a text names in an instance, with so many levels left: that of the signal that is
-- the text, and otherwise, for a text with a slash, what the text behind the first slash names in
-- the subcircuit that the number before it counts.
abbrev pub named_in : List Model → ℕ → List ℕ → List ℕ → Option ℕ
named_in models zero path text = None
named_in models (suc depth) path text =
    if is_one_of (had_by signals (model_at models path)) text then Some (number_at models path text)
    else let head = before is_slash text in
    if length head == length text then None
    else option_and_then (λ number. named_in models depth (number ∷ path)
    (drop (suc (length head)) text))
    (number_below (length (had_by use_lines (model_at models path))) head)

-- the net that a text names
abbrev pub net_named : List Model → List ℕ → Option ℕ
net_named models text = named_in models 65 [] text
