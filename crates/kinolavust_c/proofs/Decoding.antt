-- Values read one after another from their bytes.
use Rattle.std.proofs.Common.{◌≡◌, ◌++◌, ◌∷◌, [], ℕ, List, length, sym, ◌∙◌, ap, arith, append_assoc, append-nil}
use Rattle.std.specs.List.{flat_map}
use Rattle.std.proofs.lemmas.Grind.{common_steps, flat_map-append}
use Rattle.sqlval.specs.declared.value.Value.{Value}
use Rattle.sqlval.specs.declared.value.Value.TheVariants.{Null, Int, Text, Blob}
use Rattle.kinolavust_c.specs.Replies.{value_bytes}
use Rattle.kinolavust_c.specs.Values.{IsWritable, AreBytesOf}

-- a value has a byte
value_has_a_byte : (value : Value) (rest : List ℕ) → length (value_bytes value ++ rest) ≡ 0 → ⊥
value_has_a_byte Null rest is = omega (arith, is)
value_has_a_byte (Int n) rest is = omega (arith, is)
value_has_a_byte (Text text) rest is = omega (arith, is)
value_has_a_byte (Blob blob) rest is = omega (arith, is)

-- where no byte is left, all values were read
pub all_read : (values read left : List Value) (bytes : List ℕ) → values ≡ read ++ left → AreBytesOf left bytes → length bytes ≡ 0 → read ≡ values
all_read values read [] bytes parts are none = sym (parts ∙ append-nil read)
all_read values read (value ∷ left) bytes parts are none = absurd (value_has_a_byte value (flat_map value_bytes left) (ap length (sym are.1) ∙ none))

-- where a byte is left, a value's bytes stand in front
pub one_is_left : (left : List Value) (bytes : List ℕ) → AreBytesOf left bytes → (length bytes ≡ 0 → ⊥) → ((value : Value) (rest : List ℕ) → IsWritable value → bytes ≡ value_bytes value ++ rest → ⊥) → ⊥
one_is_left [] bytes are some none = some (ap length are.1)
one_is_left (value ∷ left) bytes are some none = none value (flat_map value_bytes left) are.0.0 are.1

-- the value that was read is the next one
pub next_read : (values read left : List Value) (bytes rest : List ℕ) (value : Value) → values ≡ read ++ left → AreBytesOf left bytes → (length bytes ≡ 0 → ⊥) → ((first : Value) (after : List ℕ) → IsWritable first → bytes ≡ value_bytes first ++ after → (value ≡ first) × (rest ≡ after)) → (more : List Value) × (values ≡ (read ++ (value ∷ [])) ++ more) × AreBytesOf more rest
next_read values read [] bytes rest value parts are some found = absurd (some (ap length are.1))
next_read values read (first ∷ left) bytes rest value parts are some found =
    let is = found first (flat_map value_bytes left) are.0.0 are.1 in
    (left, parts ∙ sym (append_assoc read (first ∷ []) left) ∙ ap (λ it. (read ++ (it ∷ [])) ++ left) (sym is.0), (are.0.1, is.1))

-- a value more was read
pub read_on : (whole left rest : List ℕ) (read : List Value) (value : Value) → whole ≡ flat_map value_bytes read ++ left → left ≡ value_bytes value ++ rest → whole ≡ flat_map value_bytes (read ++ (value ∷ [])) ++ rest
read_on whole left rest read value is first = grind (arith, common_steps, flat_map-append)
