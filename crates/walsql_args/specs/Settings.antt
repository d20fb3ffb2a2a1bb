-- The arguments of the command line.
use Rattle.std.specs.Prelude.{◌≡◌, ◌↔◌, ◌<◌, ◌^◌, ℕ, Bool, List, [], true, IsTrue, Option, Some, None, Ok, MatchOption, codes, pos, take, drop}
use Rattle.std.specs.Str.Parse.{IsNumeral, digits_value}
use Rattle.byteorder.specs.Endian.{big_number}
use Rattle.hex.specs.Hex.{decode_sized}
use Rattle.clap.specs.Words.{App, Rule, Text, first_of, matches_of, new_app, new_rule, with_rule, kind_of}
use Rattle.clap.specs.declared.builder.action.ArgAction.TheVariants.{Set, SetTrue}
use Rattle.clap.specs.declared.builder.value_parser.ValueParser.TheVariants as parser
use Rattle.clap.specs.declared.error.ErrorKind.TheVariants.{OutOfMemory}
use Rattle.wal_frame.specs.declared.log_header.Salts.{Salts}
use Rattle.walsql_args.specs.declared.arguments.ArgsError.{ArgsError}
use Rattle.walsql_args.specs.declared.arguments.ArgsError.TheVariants as refused

abbrev pub page_size_rule : Rule
page_size_rule = record (new_rule (codes "page-size")) {
  long = Some (codes "page-size");
  value_names = 1;
  parser = Some (parser.Signed (pos 0) (pos 4294967295));
}

abbrev pub salt_rule : Rule
salt_rule = record (new_rule (codes "salt")) { long = Some (codes "salt"); value_names = 1 }

abbrev pub convert_rule : Rule
convert_rule = record (new_rule (codes "convert")) { long = Some (codes "convert"); action = Some SetTrue }

abbrev pub name_rule : Rule
name_rule = record (new_rule (codes "DB")) { action = Some Set; required = true }

-- the options that the program takes: --page-size N, --salt HEX and --convert
abbrev pub walsql_options : App
walsql_options = with_rule (with_rule (with_rule (new_app (codes "walsql")) page_size_rule) salt_rule) convert_rule

-- its arguments: the options and DB
abbrev pub walsql : App
walsql = with_rule walsql_options name_rule

-- the number that a text of digits is
abbrev pub Counts : Text → ℕ → Type 0
Counts text n = IsNumeral 10 text → digits_value 10 text < 2 ^ 32 → n ≡ digits_value 10 text

-- the two salts that 16 hexadecimal digits spell, first the one and then the other
abbrev pub SpellsSalts : Text → Salts → Type 0
SpellsSalts text salts = (bytes : List ℕ) × (decode_sized text 8 ≡ Ok bytes)
    × (salts.first ≡ big_number 4 (take 4 bytes)) × (salts.second ≡ big_number 4 (drop 4 bytes))

-- the value that stands after a name in the matches of the program's arguments
abbrev pub value_in : List Text → Text → Option Text
value_in arguments id = first_of id (matches_of walsql arguments)

-- what stands in the matches: the page size, the salts and the name, and 4096, 1 and 2 where these are absent; and whether the flag does
pub record AreSettings (value : Text → Option Text) (page_size : ℕ) (salts : Salts) (convert : Bool) (name : Text) : Type 0 where
  pub page_size_is : MatchOption (value (codes "page-size")) (page_size ≡ 4096) (λ text. Counts text page_size)
  pub salts_are : MatchOption (value (codes "salt")) (salts ≡ record { first = 1; second = 2 }) (λ text. SpellsSalts text salts)
  pub convert_is : IsTrue convert ↔ (value (codes "convert") ≡ Some (codes "true"))
  pub name_is : MatchOption (value (codes "DB")) (name ≡ []) (λ text. name ≡ text)

-- why arguments that match the usage are refused: the value of --salt isn't 16 hexadecimal digits, or memory ran out
abbrev pub IsRefusalOf : Option Text → ArgsError → Type 0
IsRefusalOf (Some text) (refused.Salt digits) = (digits.now ≡ text) × ((salts : Salts) → SpellsSalts text salts → ⊥)
IsRefusalOf None (refused.Salt digits) = ⊥
IsRefusalOf digits (refused.Usage error) = kind_of error ≡ OutOfMemory
