use Rattle.std.proofs.Common.{◌≡◌, length, map}
use Rattle.std.specs.List.{list_any}
use Rattle.std.specs.Str.{str_eq_ignore_ascii_case}
use Rattle.shell.proofs.names.is_kept.Given as goal

abbrev pub invariant-words : goal.invariant-words
invariant-words l = list_any (λ word. str_eq_ignore_ascii_case word l.name) (map (λ word. word.now) l.words)
    ≡ list_any (λ word. str_eq_ignore_ascii_case word l.name) (map (λ word. word.now) l.initial.words)

abbrev pub decreases-words : goal.decreases-words
decreases-words l = length l.words
