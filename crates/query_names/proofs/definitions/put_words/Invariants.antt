use Rattle.std.specs.Prelude.{◌≡◌, ◌++◌, ◌∷◌, flat_map, take, string_bytes}
use Rattle.query_names.proofs.definitions.put_words.Given as goal

-- the words so far stand after the text
abbrev pub invariant-words : goal.invariant-words
invariant-words l = string_bytes l.text ≡ string_bytes l.fn.text ++ flat_map (λ word. 32 ∷ word) (take l.word-index l.words)
