-- What is read is a header, and a header is read.
use Rattle.sqlval.specs.PageSizes.{is_size}
use Rattle.std.proofs.Common.{◌≡◌, ℕ, Bool, true, false, cond, not, ◌&&◌, nat_le, List, [], ◌∷◌, length, Option, Some, None, Result, Ok, Err, refl, ap, subst, ◌∙◌}
use Rattle.std.specs.Str.{bytes_eq}
use Rattle.std.proofs.lemmas.Bool.{eqb-true, leb-true, le-leb}
use Rattle.std.proofs.lemmas.Slice.Eq.{bytes_eq-Decides}
use Rattle.sqlval.specs.declared.fault.Fault.{Fault}
use Rattle.sqlval.specs.declared.fault.Feature.{Feature}
use Rattle.db_header.specs.declared.fields.Header.{Header}
use Rattle.db_header.specs.Header.{two_at, four_at, part, size_said, IsHeader}
use Rattle.db_header.specs.Reading.{has_text, feature_of, is_fixed, fields_of, unless, header_at}
use Rattle.sqlval.proofs.PageSizeLemmas.{size_is, size_tested}

both : (a b : Bool) → (a && b) ≡ true → (a ≡ true) × (b ≡ true)
both true b e = (refl, e)
both false b e = absurd cc

passes : (b : Bool) (feature : Feature) (rest : Option Feature) → cond (not b) (Some feature) rest ≡ None → (b ≡ true) × (rest ≡ None)
passes true feature rest e = (refl, e)
passes false feature rest e = absurd cc

kept : (b : Bool) (read : Result Header Fault) (fault : Fault) (h : Header) → cond b read (Err fault) ≡ Ok h → (b ≡ true) × (read ≡ Ok h)
kept true read fault h e = (refl, e)
kept false read fault h e = absurd cc

served : (feature : Option Feature) (read : Result Header Fault) (h : Header) → unless feature read ≡ Ok h → (feature ≡ None) × (read ≡ Ok h)
served None read h e = (refl, e)
served (Some feature) read h e = absurd cc

same : (xs ys : List ℕ) → bytes_eq xs ys ≡ true → xs ≡ ys
same xs ys e = (bytes_eq-Decides xs ys).0 e

equal : (xs ys : List ℕ) → xs ≡ ys → bytes_eq xs ys ≡ true
equal xs ys e = (bytes_eq-Decides xs ys).1 e

abbrev header : Header → Result Header Fault
header h = Ok h

header_of : {a b : Header} → header a ≡ header b → a ≡ b
header_of e = cc

-- the numbers of what was read
pub record Served (bytes : List ℕ) : Type 0 where
  pub size : is_size (size_said (two_at 16 bytes)) ≡ true
  pub versions : part 18 2 bytes ≡ 2 ∷ 2 ∷ []
  pub reserved : part 20 1 bytes ≡ 0 ∷ []
  pub schema_format : four_at 44 bytes ≡ 4
  pub largest_root : four_at 52 bytes ≡ 0
  pub vacuum : four_at 64 bytes ≡ 0
  pub encoding : four_at 56 bytes ≡ 1

is_supported : (bytes : List ℕ) → feature_of bytes ≡ None → Served bytes
unfolding feature_of
is_supported bytes e =
    let a = passes _ _ _ e in
    let b = passes _ _ _ a.1 in
    let c = passes _ _ _ b.1 in
    let d = passes _ _ _ c.1 in
    let f = passes _ _ _ d.1 in
    let g = passes _ _ _ f.1 in
    let h = passes _ _ _ g.1 in
    record {
      size = a.0;
      versions = same _ _ b.0;
      reserved = same _ _ c.0;
      schema_format = eqb-true _ _ d.0;
      largest_root = eqb-true _ _ f.0;
      vacuum = eqb-true _ _ g.0;
      encoding = eqb-true _ _ h.0;
    }

none_unserved : (bytes : List ℕ) → Served bytes → feature_of bytes ≡ None
unfolding feature_of
none_unserved bytes s =
    rw (s.size, equal _ _ s.versions, equal _ _ s.reserved, s.schema_format, s.largest_root, s.vacuum, s.encoding) refl

pub header_is : (bytes : List ℕ) (h : Header) → header_at bytes ≡ Ok h → IsHeader bytes h
unfolding header_at has_text is_fixed fields_of
header_is bytes h e =
    let text = kept _ _ _ h e in
    let served = served _ _ h text.1 in
    let fixed = kept _ _ _ h served.1 in
    let t = both _ _ text.0 in
    let f = both _ _ fixed.0 in
    let s = is_supported bytes served.0 in
    let fields : fields_of bytes ≡ h = header_of fixed.1 in
    subst (IsHeader bytes) fields (record {
      long = leb-true _ _ t.0;
      text = same _ _ t.1;
      page_size = refl;
      served = size_is _ s.size;
      versions = s.versions;
      reserved = s.reserved;
      fractions = same _ _ f.0;
      change_counter = refl;
      size = refl;
      freelist_trunk = refl;
      freelist_count = refl;
      schema_cookie = refl;
      schema_format = s.schema_format;
      default_cache_size = refl;
      largest_root = s.largest_root;
      encoding = s.encoding;
      user_version = refl;
      vacuum = s.vacuum;
      application_id = refl;
      zeros = same _ _ f.1;
      version_valid_for = refl;
      writer_version = refl;
    })

pub header_again : (bytes : List ℕ) (h : Header) → IsHeader bytes h → header_at bytes ≡ Ok h
unfolding header_at has_text is_fixed fields_of
header_again bytes h i =
    let none = none_unserved bytes (record {
      size = ap is_size i.page_size ∙ size_tested h.page_size i.served;
      versions = i.versions;
      reserved = i.reserved;
      schema_format = i.schema_format;
      largest_root = i.largest_root;
      vacuum = i.vacuum;
      encoding = i.encoding;
    }) in
    let long : nat_le 100 (length bytes) ≡ true = le-leb _ _ i.long in
    rw (long, equal _ _ i.text, none, equal _ _ i.fractions, equal _ _ i.zeros, i.page_size, i.change_counter, i.size, i.freelist_trunk, i.freelist_count, i.schema_cookie, i.default_cache_size, i.user_version, i.application_id, i.version_valid_for, i.writer_version) refl
