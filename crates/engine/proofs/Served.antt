-- How serving goes on, line by line.
use Rattle.std.proofs.Common.{◌≡◌, ◌∙◌, ap, sym, refl, subst, Bool, true, false, arith, ℕ, ◌<◌, ◌⊎◌, List, [], ◌∷◌, ◌++◌, length, append-nil, append_assoc, Option, Some, None, OnErr, Result, Ok, Err, inl, inr}
use Rattle.std.specs.List.{AllByRecursion}
use Rattle.std.specs.Io.KnownBytes.{Appends, Keeps}
use Rattle.std.proofs.KnownBytes.{Appends-nil, Appends-trans, Appends-kept}
use Rattle.std.specs.Prelude.{IfSome, OnOk, Vec}
use Rattle.std.specs.declared.alloc.Global.{Global}
use Rattle.smallvec.specs.SmallVec.{SmallVec}
use Rattle.sqlval.specs.declared.fault.Fault.{Fault}
use Rattle.sqlval.specs.declared.value.Value.{Value}
use Rattle.session.specs.Representation.{rows_reply}
use Rattle.disk.specs.declared.device.Disk.{Ghosts}
use Rattle.engine.specs.Lines.{AreLines, Between, BeganWith, HasRead, HasReadLine, IsNoLineFeed}
use Rattle.engine.specs.Output.{output_text, reply_text}
use Rattle.engine.specs.Serving.{Answers, AnswersKept, AppendsPart, AreReplies, BeginsWithLines, EndsWithPart, GivesUp, HasRun, HasRunInPart, HasServed, HasServedInPart, HasWritten, Reply, machine_reply}
use Rattle.engine.specs.Replies.{reply_of}
use Rattle.engine.specs.declared.opening.Engine.{Engine}
use Rattle.engine.proofs.Running.{all_run}

pub none_written : (a b : Option (List ℕ)) → Appends a b [] → Keeps a b
none_written None b is = tt
none_written (Some x) None is = absurd is
none_written (Some x) (Some y) is = is ∙ append-nil x

-- a beginning of the text was written, and the rest is to be
pub writes_on : (a b c : Option (List ℕ)) (text rest left : List ℕ) → HasWritten a b text rest → HasWritten b c rest left → HasWritten a c text left
writes_on a b c text rest left first second = record {
  part = first.part ++ second.part;
  is = first.is ∙ ap (λ (l : List ℕ). first.part ++ l) second.is ∙ sym (append_assoc first.part second.part left);
  written = Appends-trans a b c first.part second.part first.written second.written;
}

pub written_none : (a : Option (List ℕ)) (text : List ℕ) → HasWritten a a text text
written_none a text = record { part = []; is = refl; written = Appends-nil a }

pub written_whole : (a b : Option (List ℕ)) (text rest : List ℕ) → HasWritten a b text rest → length rest ≡ 0 → Appends a b text
written_whole a b text [] has none = subst (Appends a b) (sym (has.is ∙ append-nil has.part)) has.written
written_whole a b text (x ∷ rest) has none = absurd (omega (arith, none))

pub written_part : (a b c : Option (List ℕ)) (text rest : List ℕ) → HasWritten a b text rest → Keeps b c → AppendsPart a c text
written_part a b c text rest has kept = record { part = has.part; unwritten = rest; is = has.is; written = Appends-kept a b c has.part has.written kept }

pub nothing_written : (a : Option (List ℕ)) (text : List ℕ) → AppendsPart a a text
nothing_written a text = record { part = []; unwritten = text; is = refl; written = Appends-nil a }

pub unflushed : (a b c : Option (List ℕ)) (text : List ℕ) → Appends a b text → Keeps b c → AppendsPart a c text
unflushed a b c text has kept = record { part = text; unwritten = []; is = sym (append-nil text); written = Appends-kept a b c text has kept }

text_more : (replies : List Reply) (reply : Reply) → output_text (replies ++ reply ∷ []) ≡ output_text replies ++ reply_text reply
text_more [] reply = append-nil (reply_text reply)
text_more (r ∷ rs) reply = ap (λ (l : List ℕ). reply_text r ++ l) (text_more rs reply) ∙ sym (append_assoc (reply_text r) (output_text rs) (reply_text reply))

abbrev MayGoOn : List ℕ → List (List ℕ) → List ℕ → Type 0
MayGoOn beginning lines rest = (rest ≡ []) ⊎ ((next : List ℕ) (more : List (List ℕ)) → AreLines next more → AreLines (beginning ++ next) (lines ++ more))

-- the last line ends with a line feed, or with the input; or there is none
abbrev AreEnded : List ℕ → List ℕ → Type 0
AreEnded beginning rest = (rest ≡ []) ⊎ (beginning ≡ []) ⊎ ((front : List ℕ) × (beginning ≡ front ++ 10 ∷ []))

-- the lines with one more, and the input's bytes with those of the line
record Longer (input rest beginning : List ℕ) (lines : List (List ℕ)) (line : List ℕ) : Type 0 where
  pub longer : List ℕ
  pub whole : input ≡ longer ++ rest
  pub are_lines : AreLines longer (lines ++ line ∷ [])
  pub are_ended : AreEnded longer rest
  pub may_go_on : MayGoOn longer (lines ++ line ∷ []) rest

not_empty : (line rest : List ℕ) → [] ≡ line ++ 10 ∷ rest → ⊥
not_empty [] rest e = let bad = ap (length {A = ℕ}) e in omega (arith, bad)
not_empty (x ∷ line) rest e = let bad = ap (length {A = ℕ}) e in omega (arith, bad)

fed_longer : (input left rest beginning : List ℕ) (lines : List (List ℕ)) (line : List ℕ) → input ≡ beginning ++ left → AllByRecursion IsNoLineFeed line
    → ((next : List ℕ) (more : List (List ℕ)) → AreLines next more → AreLines (beginning ++ next) (lines ++ more)) → left ≡ line ++ 10 ∷ rest
    → Longer input rest beginning lines line
fed_longer input left rest beginning lines line whole none on is =
    let shifted : (next : List ℕ) → beginning ++ (line ++ 10 ∷ next) ≡ (beginning ++ (line ++ 10 ∷ [])) ++ next =
    λ next. ap (λ (l : List ℕ). beginning ++ l) (sym (append_assoc line (10 ∷ []) next)) ∙ sym (append_assoc beginning (line ++ 10 ∷ []) next) in
    record {
      longer = beginning ++ (line ++ 10 ∷ []);
      whole = whole ∙ ap (λ (l : List ℕ). beginning ++ l) is ∙ shifted rest;
      are_lines = on (line ++ 10 ∷ []) (line ∷ []) (AreLines.ended_line none AreLines.no_lines);
      are_ended = inr (inr (beginning ++ line, sym (append_assoc beginning line (10 ∷ []))));
      may_go_on = inr (λ next more are.
          subst (λ (l : List ℕ). AreLines l ((lines ++ line ∷ []) ++ more)) (shifted next)
          (subst (λ (ls : List (List ℕ)). AreLines (beginning ++ (line ++ 10 ∷ next)) ls) (sym (append_assoc lines (line ∷ []) more))
          (on (line ++ 10 ∷ next) (line ∷ more) (AreLines.ended_line none are))));
    }

last_are : (line : List ℕ) → 0 < length line → AllByRecursion IsNoLineFeed line → AreLines line (line ∷ [])
last_are [] some none = absurd (omega (arith, some))
last_are (x ∷ line) some none = AreLines.last_line none

last_longer : (input left rest beginning : List ℕ) (lines : List (List ℕ)) (line : List ℕ) → input ≡ beginning ++ left → AllByRecursion IsNoLineFeed line
    → ((next : List ℕ) (more : List (List ℕ)) → AreLines next more → AreLines (beginning ++ next) (lines ++ more)) → left ≡ line → rest ≡ [] → 0 < length line
    → Longer input rest beginning lines line
last_longer input left rest beginning lines line whole none on is end some = record {
  longer = beginning ++ line;
  whole = whole ∙ ap (λ (l : List ℕ). beginning ++ l) is ∙ sym (append-nil (beginning ++ line)) ∙ ap (λ (l : List ℕ). (beginning ++ line) ++ l) (sym end);
  are_lines = on line (line ∷ []) (last_are line some none);
  are_ended = inl end;
  may_go_on = inl end;
}

longer_by : (input left rest beginning : List ℕ) (lines : List (List ℕ)) (line : List ℕ) → input ≡ beginning ++ left → AllByRecursion IsNoLineFeed line
    → MayGoOn beginning lines left → BeganWith line left rest → Longer input rest beginning lines line
longer_by input left rest beginning lines line whole none (inl end) (inl is) = absurd (not_empty line rest (sym end ∙ is))
longer_by input left rest beginning lines line whole none (inl end) (inr (is, last, some)) = absurd (omega (arith, some, ap (length {A = ℕ}) (sym is ∙ end)))
longer_by input left rest beginning lines line whole none (inr on) (inl is) = fed_longer input left rest beginning lines line whole none on is
longer_by input left rest beginning lines line whole none (inr on) (inr (is, last, some)) = last_longer input left rest beginning lines line whole none on is last some

-- the same, as the loop meets it
pub on_err : {A B : Type 0} (r : Result A B) (P : Type 0) → P → OnErr r P
on_err (Ok x) P h = tt
on_err (Err e) P h = h

pub same_reply : (result : Result (Vec (SmallVec Value) Global) Fault) → rows_reply result ≡ machine_reply (reply_of result)
same_reply (Ok rows) = refl
same_reply (Err f) = refl

-- Lines of the input that were read. More lines may follow, or nothing is left.
pub record IsReadTo (lines : List (List ℕ)) (input rest : List ℕ) : Type 0 where
  pub beginning : List ℕ
  pub whole : input ≡ beginning ++ rest
  pub are_lines : AreLines beginning lines
  pub are_ended : AreEnded beginning rest
  pub may_go_on : (rest ≡ []) ⊎ ((next : List ℕ) (more : List (List ℕ)) → AreLines next more → AreLines (beginning ++ next) (lines ++ more))

abbrev pub IsAfter : List Reply → List ℕ → List ℕ → Type 0
IsAfter replies before after = after ≡ before ++ output_text replies

begins_reading : (given : Option (List ℕ)) → Between (IsReadTo []) given given
begins_reading None = tt
begins_reading (Some input) = record { beginning = []; whole = refl; are_lines = AreLines.no_lines; are_ended = inr (inl refl); may_go_on = inr (λ next more are. are) }

begins_writing : (before : Option (List ℕ)) → Between (IsAfter []) before before
begins_writing None = tt
begins_writing (Some b) = sym (append-nil b)

read_over : (input left rest : List ℕ) (lines : List (List ℕ)) (line : List ℕ) → IsReadTo lines input left → AllByRecursion IsNoLineFeed line → BeganWith line left rest → IsReadTo (lines ++ line ∷ []) input rest
read_over input left rest lines line has none read =
    let to = longer_by input left rest has.beginning lines line has.whole none has.may_go_on read in
    record { beginning = to.longer; whole = to.whole; are_lines = to.are_lines; are_ended = to.are_ended; may_go_on = to.may_go_on }

reads_on : (given left rest : Option (List ℕ)) (lines : List (List ℕ)) (line : List ℕ) → Between (IsReadTo lines) given left → AllByRecursion IsNoLineFeed line → Between (BeganWith line) left rest
    → Between (IsReadTo (lines ++ line ∷ [])) given rest
reads_on None left rest lines line has none read = tt
reads_on (Some i) None rest lines line has none read = absurd has
reads_on (Some i) (Some l) None lines line has none read = absurd read
reads_on (Some i) (Some l) (Some n) lines line has none read = read_over i l n lines line has none read

writes_over : (before after further : List ℕ) (replies : List Reply) (reply : Reply) → IsAfter replies before after → further ≡ after ++ reply_text reply → IsAfter (replies ++ reply ∷ []) before further
writes_over before after further replies reply has written =
    written ∙ ap (λ (l : List ℕ). l ++ reply_text reply) has ∙ append_assoc before (output_text replies) (reply_text reply) ∙ ap (λ (l : List ℕ). before ++ l) (sym (text_more replies reply))

writes_more : (before after further : Option (List ℕ)) (replies : List Reply) (reply : Reply) → Between (IsAfter replies) before after → Appends after further (reply_text reply)
    → Between (IsAfter (replies ++ reply ∷ [])) before further
writes_more None after further replies reply has written = tt
writes_more (Some b) None further replies reply has written = absurd has
writes_more (Some b) (Some a) None replies reply has written = absurd written
writes_more (Some b) (Some a) (Some f) replies reply has written = writes_over b a f replies reply has written

part_over : (before after further : List ℕ) (replies : List Reply) (reply : Reply) (part unwritten : List ℕ) → IsAfter replies before after → reply_text reply ≡ part ++ unwritten → further ≡ after ++ part
    → EndsWithPart (output_text (replies ++ reply ∷ [])) before further
part_over before after further replies reply part unwritten has text written = record {
  part = output_text replies ++ part;
  unwritten = unwritten;
  is = text_more replies reply ∙ ap (λ (l : List ℕ). output_text replies ++ l) text ∙ sym (append_assoc (output_text replies) part unwritten);
  written = written ∙ ap (λ (l : List ℕ). l ++ part) has ∙ append_assoc before (output_text replies) part;
}

writes_part : (before after further : Option (List ℕ)) (replies : List Reply) (reply : Reply) → Between (IsAfter replies) before after → AppendsPart after further (reply_text reply)
    → Between (EndsWithPart (output_text (replies ++ reply ∷ []))) before further
writes_part before after further replies reply has cut = by before after further has cut.written
  where
    by : (before after further : Option (List ℕ)) → Between (IsAfter replies) before after → Appends after further cut.part → Between (EndsWithPart (output_text (replies ++ reply ∷ []))) before further
    by None after further h w = tt
    by (Some b) None further h w = absurd h
    by (Some b) (Some a) None h w = absurd w
    by (Some b) (Some a) (Some f) h w = part_over b a f replies reply cut.part cut.unwritten h cut.is w

writes_whole : (before after : Option (List ℕ)) (replies : List Reply) → Between (IsAfter replies) before after → Between (EndsWithPart (output_text replies)) before after
writes_whole None after replies has = tt
writes_whole (Some b) None replies has = absurd has
writes_whole (Some b) (Some a) replies has = record { part = output_text replies; unwritten = []; is = sym (append-nil (output_text replies)); written = has }

reads_part : (given left : Option (List ℕ)) (lines : List (List ℕ)) → Between (IsReadTo lines) given left → IfSome given (BeginsWithLines lines)
reads_part None left lines has = tt
reads_part (Some i) None lines has = absurd has
reads_part (Some i) (Some l) lines has = record { beginning = has.beginning; unanswered = l; whole = has.whole; are_lines = has.are_lines; are_ended = has.are_ended }

end_over : (input left : List ℕ) (lines : List (List ℕ)) → IsReadTo lines input left → left ≡ [] → AreLines input lines
end_over input left lines has none = subst (λ (l : List ℕ). AreLines l lines) (sym (has.whole ∙ ap (λ (l : List ℕ). has.beginning ++ l) none ∙ append-nil has.beginning)) has.are_lines

reads_end : (given left rest : Option (List ℕ)) (lines : List (List ℕ)) (kept : List ℕ) → Between (IsReadTo lines) given left → HasRead false left rest kept
    → Between (λ input rest. (rest ≡ []) × AreLines input lines) given rest
reads_end None left rest lines kept has read = tt
reads_end (Some i) None rest lines kept has read = absurd has
reads_end (Some i) (Some l) None lines kept has read = absurd read
reads_end (Some i) (Some l) (Some n) lines kept has read = (read.1, end_over i l lines has read.0)

module _ {D : Type 0} {g : Ghosts D} where
  -- The lines of what was read, each with its reply, which is written.
  pub record IsServing (old : Engine D g) (given left before after : Option (List ℕ)) (now : Engine D g) : Type 0 where
    pub lines : List (List ℕ)
    pub replies : List Reply
    pub are_replies : AreReplies old lines replies now
    pub read : Between (IsReadTo lines) given left
    pub written : Between (IsAfter replies) before after

  pub begins : (old : Engine D g) (given before : Option (List ℕ)) → IsServing old given given before before old
  begins old given before = record { lines = []; replies = []; are_replies = refl; read = begins_reading given; written = begins_writing before }

  -- one more line and its reply
  one_more : (old mid new : Engine D g) (lines : List (List ℕ)) (replies : List Reply) (line : List ℕ) (reply : Reply) → AreReplies old lines replies mid → Answers mid line reply new
      → AreReplies old (lines ++ line ∷ []) (replies ++ reply ∷ []) new
  one_more old mid new [] [] line reply are here = (new, subst (λ (e : Engine D g). Answers e line reply new) are here, refl)
  one_more old mid new [] (r ∷ rs) line reply are here = absurd are
  one_more old mid new (l ∷ ls) [] line reply are here = absurd are
  one_more old mid new (l ∷ ls) (r ∷ rs) line reply (first, answered, are) here = (first, answered, one_more first mid new ls rs line reply are here)

  -- the replies with that to the line that was read
  replied : (old mid new : Engine D g) (lines : List (List ℕ)) (replies : List Reply) (left rest : Option (List ℕ)) (kept : List ℕ) (reply : Reply) → AreReplies old lines replies mid → (read : HasReadLine left rest kept)
      → AnswersKept mid kept reply new → AreReplies old (lines ++ read.line ∷ []) (replies ++ reply ∷ []) new
  replied old mid new lines replies left rest kept reply are read answered =
      one_more old mid new lines replies read.line reply are (subst (λ (k : List ℕ). AnswersKept mid k reply new) read.kept_is answered)

  served : (old mid new : Engine D g) (given left rest before after further : Option (List ℕ)) (kept : List ℕ) (reply : Reply) → IsServing old given left before after mid
      → HasReadLine left rest kept → AnswersKept mid kept reply new → Appends after further (reply_text reply) → IsServing old given rest before further new
  served old mid new given left rest before after further kept reply has read answered written = record {
    lines = has.lines ++ read.line ∷ [];
    replies = has.replies ++ reply ∷ [];
    are_replies = replied old mid new has.lines has.replies left rest kept reply has.are_replies read answered;
    read = reads_on given left rest has.lines read.line has.read read.one_line read.read;
    written = writes_more before after further has.replies reply has.written written;
  }

  pub served_in_part : (old now : Engine D g) (given left before after : Option (List ℕ)) → IsServing old given left before after now → HasServedInPart old given before after now
  served_in_part old now given left before after has = record {
    lines = has.lines;
    replies = has.replies;
    are_replies = has.are_replies;
    runs = all_run old has.lines has.replies now has.are_replies;
    read = reads_part given left has.lines has.read;
    written = writes_whole before after has.replies has.written;
  }

  cut_short : (old mid new : Engine D g) (given left rest before after further : Option (List ℕ)) (kept : List ℕ) (reply : Reply) → IsServing old given left before after mid
      → HasReadLine left rest kept → AnswersKept mid kept reply new → AppendsPart after further (reply_text reply) → HasServedInPart old given before further new
  cut_short old mid new given left rest before after further kept reply has read answered cut = (let are = replied old mid new has.lines has.replies left rest kept reply has.are_replies read answered in record {
    lines = has.lines ++ read.line ∷ [];
    replies = has.replies ++ reply ∷ [];
    are_replies = are;
    runs = all_run old (has.lines ++ read.line ∷ []) (has.replies ++ reply ∷ []) new are;
    read = reads_part given rest (has.lines ++ read.line ∷ []) (reads_on given left rest has.lines read.line has.read read.one_line read.read);
    written = writes_part before after further has.replies reply has.written cut;
  })

  pub ended : (old now : Engine D g) (is_line : Bool) (given left rest before after : Option (List ℕ)) (kept : List ℕ) → is_line ≡ false → IsServing old given left before after now
      → HasRead is_line left rest kept → HasServed old given rest before after now
  ended old now true given left rest before after kept e has read = absurd cc
  ended old now false given left rest before after kept e has read = record {
    lines = has.lines;
    replies = has.replies;
    are_replies = has.are_replies;
    runs = all_run old has.lines has.replies now has.are_replies;
    read = reads_end given left rest has.lines kept has.read read;
    written = has.written;
  }

  pub goes_on : (old mid new : Engine D g) (is_line : Bool) (given left rest before after further : Option (List ℕ)) (kept seen : List ℕ) (reply : Reply) → is_line ≡ true → seen ≡ kept
      → IsServing old given left before after mid → HasRead is_line left rest kept → AnswersKept mid seen reply new → Appends after further (reply_text reply) → IsServing old given rest before further new
  goes_on old mid new false given left rest before after further kept seen reply e same has read answered written = absurd cc
  goes_on old mid new true given left rest before after further kept seen reply e same has read answered written =
      served old mid new given left rest before after further kept reply has read (subst (λ (k : List ℕ). AnswersKept mid k reply new) same answered) written

  pub stops_short : (old mid new : Engine D g) (is_line : Bool) (given left rest before after further : Option (List ℕ)) (kept seen : List ℕ) (reply : Reply) → is_line ≡ true → seen ≡ kept
      → IsServing old given left before after mid → HasRead is_line left rest kept → AnswersKept mid seen reply new → AppendsPart after further (reply_text reply) → HasServedInPart old given before further new
  stops_short old mid new false given left rest before after further kept seen reply e same has read answered cut = absurd cc
  stops_short old mid new true given left rest before after further kept seen reply e same has read answered cut =
      cut_short old mid new given left rest before after further kept reply has read (subst (λ (k : List ℕ). AnswersKept mid k reply new) same answered) cut

  -- after a run the transaction is given up
  pub ran : {A B : Type 0} (old end new : Engine D g) (result : Result A B) (given left before after : Option (List ℕ)) → OnOk result (HasServed old given left before after end) → GivesUp end new
      → OnOk result (HasRun old given left before after new)
  ran old end new (Ok x) given left before after has gone = record { end = end; served = has; gone = gone }
  ran old end new (Err e) given left before after has gone = tt

  pub ran_in_part : {A B : Type 0} (old end new : Engine D g) (result : Result A B) (given before after : Option (List ℕ)) → OnErr result (HasServedInPart old given before after end) → GivesUp end new
      → OnErr result (HasRunInPart old given before after new)
  ran_in_part old end new (Ok x) given before after has gone = tt
  ran_in_part old end new (Err e) given before after has gone = record { end = end; served = has; gone = gone }
