-- Texts that are cut at a byte, one part after the other, and what the lines of a script say.
use Rattle.std.proofs.Common.{◌≡◌, ℕ, suc, ◌+◌, ◌-◌, ◌*◌, ◌^◌, ◌<◌, ◌≤◌, ◌==◌, ◌&&◌, ◌||◌, ◌≢◌, ◌⊎◌, nat_le, Bool, true, false, cond, not, IsTrue, List, [], ◌∷◌, ◌++◌, length, take, drop, refl, sym, ◌∙◌, ap, subst, arith, inl, inr, lit<, nat_lt, None, Some, Ok, Err, IfOk, length-drop, length-append, append_assoc, add-one}
use Rattle.std.specs.Prelude.{codes, bytes_eq}
use Rattle.std.specs.Result.{result_ok}
use Rattle.std.specs.declared.result.Result.{Result}
use Rattle.std.specs.List.{slice_split, onto_first, position, position_or_len, list_all}
use Rattle.std.specs.Option.{option_map}
use Rattle.std.specs.declared.option.Option.{Option}
use Rattle.std.proofs.lemmas.Bool.{cases_Bool, cond-true, cond-false, ltb-true, ltb-false, lt-ltb, eqb-true, eq-eqb, and_from, and_parts, or_cases, both_ways, leb-true, le-leb, not_from_true, not_from_false}
use Rattle.std.proofs.lemmas.List.Splits.{slice_split_first, slice_split-cons_no}
use Rattle.std.proofs.Math.Numerals.{one-add}
use Rattle.std.proofs.Math.Seq.{take-append_seam, drop-append-add}
use Rattle.std.proofs.lemmas.Slice.Eq.{bytes_eq-Decides}
use Rattle.listing.proofs.Decimals.{some_decimal, decimal_some}
use Rattle.listing.specs.Number.{number_of, number_after}
use Rattle.listing.specs.Word.{parts_at, ◌>>=◌}
use Rattle.cdni_base.specs.Key.{KeyParts, key_of}
use Rattle.cdni_base.specs.declared.asked.Asked.{Asked}
use Rattle.cdni_base.specs.declared.key.Ignored.TheVariants as ignored
use Rattle.targets.proofs.TargetLemmas.{target_is_read, target_read}
use Rattle.targets.specs.Grammar.{IsTarget}
use Rattle.targets.specs.Target.{target_of}
use Rattle.targets.specs.declared.target.Target.{Target}
use Rattle.targets.specs.declared.target.Protocol.{Protocol}
use Rattle.targets.specs.declared.target.Protocol.TheVariants.{Http, Https}
use Rattle.location_acl.proofs.AddressLemmas.{address_is, address_from}
use Rattle.location_acl.proofs.FootprintLemmas.{network_from_text, network_is, known_country_from_text, known_country_is}
use Rattle.location_acl.specs.Footprint.{asn_of, country_of, optional}
use Rattle.location_acl.specs.Ip.{ip_of}
use Rattle.location_acl.specs.declared.footprint.Place.{Place}
use Rattle.metadata_objects.specs.Host.{host_index_of_text}
use Rattle.hex.specs.Hex.{decode_of}
use Rattle.cdni_base.specs.Limits.{Bounds, AreInRange}
use Rattle.history.specs.Event.{Event, request_of, Admit, FetchEnd, Finish, ListLogs, Cancel, Lists}
use Rattle.upstream_gate.specs.Got.{GotParts, IsGot, is_got_status}
use Rattle.upstream_gate.specs.declared.got.TheConstants.{BODY_MAX}
use Rattle.upstream_gate.specs.declared.outcome.Outcome.TheVariants as outcome
use Rattle.script_line.specs.Line.{Noted, Said, Sets, Calls, Refuses, said_of, on_pass, Gives, Reads, TellsNoMemory}
use Rattle.script_line.specs.declared.line.ScriptFault.{ScriptFault}
use Rattle.script_line.specs.declared.line.ScriptFault.TheVariants as script_fault
use Rattle.script_line.specs.declared.line.ScriptLine.{ScriptLine}
use Rattle.script_line.specs.Grammar.{number_below, number_between, bounds_of, limits_of, url_target, key_of_url, each_of, keys_of, is_method, protocol_of, place_at, asked_of, get_of, refreshed, meta_of, plain, is_kind, kind_of, body_of, content_of, got_of, finish_of, one_of, cancel_of, list_of, filter_of, filter_word, of_triggers, of_numbers, bare_of, commanded, plainly_or, worded, call_of, scripted_of, line_of, NoSpace, IsNumber, IsProtocol, IsPlace, IsAsked, AreKeys, IsKind, IsBody, SaysMeta, SaysGet, SaysGot, SaysOne, SaysFinish, SaysCancel, SaysList, AreNumbers, IsWords, SaysOfTriggers, SaysOfNumbers, SaysBare, SaysCall, SaysRefusal, SaysLimits, Says}
use Rattle.script_line.specs.Own.{own_id, control_host}
use Rattle.trigger_command.specs.Reading.{Judged, command_of}
use Rattle.trigger_command.specs.declared.command.Command.{Command}
use Rattle.script_line.specs.declared.grammar.TheConstants.{SPACE, BAR, COMMA}
use Rattle.trigger_status.specs.declared.job.Filter.{Filter}
use Rattle.trigger_status.specs.declared.job.Filter.TheVariants as filter

abbrev pub parts_of : ℕ → List ℕ → List (List ℕ)
parts_of byte text = slice_split (λ x. x == byte) text

no_some : {A : Type 0} {x : A} → None ≡ Some x → ⊥
no_some is = cc

found_cut : {A B : Type 0} (t : Bool) (a : A) (f : A → B) (b : B) → Some b ≡ option_map f (cond t (Some a) None) → (t ≡ true) × (b ≡ f a)
found_cut true a f b is = (refl, cc)
found_cut false a f b is = absurd (cc)

found_none : {A B : Type 0} (t : Bool) (a : A) (f : A → B) → None ≡ option_map f (cond t (Some a) None) → t ≡ false
found_none true a f is = absurd (cc)
found_none false a f is = refl

pub cut_parts : (byte : ℕ) (text front after : List ℕ) → Some (front, after) ≡ parts_at byte text → parts_of byte text ≡ front ∷ parts_of byte after
unfolding parts_at
cut_parts byte text front after is =
    let f = found_cut _ (position_or_len (λ x. x == byte) text) (λ place. (take place text, drop (place + 1) text)) (front, after) is in
    slice_split_first (λ x. x == byte) text 0 (ltb-true _ _ f.0) ∙ ap (λ parts. parts.0 ∷ parts_of byte parts.1) (sym f.1)

pub cut_shorter : (byte : ℕ) (text front after : List ℕ) → Some (front, after) ≡ parts_at byte text → length after < length text
unfolding parts_at
cut_shorter byte text front after is =
    let f = found_cut _ (position_or_len (λ x. x == byte) text) (λ place. (take place text, drop (place + 1) text)) (front, after) is in
    let within = ltb-true _ _ f.0 in
    let rest : length after ≡ length (drop (position_or_len (λ x. x == byte) text + 1) text) = ap (λ parts. length parts.1) f.1 in
    omega (arith, within, rest, length-drop (position_or_len (λ x. x == byte) text + 1) text)

whole : (p : ℕ → Bool) (text : List ℕ) → length text ≤ position_or_len p text → slice_split p text ≡ text ∷ []
whole p [] over = refl
whole p (x ∷ text) over = elim (cases_Bool (p x)) [
  | inl is ↦ let none : position_or_len p (x ∷ text) ≡ 0 = cond-false _ _ _ (not_from_true (p x) is) in absurd (omega (arith, none, over))
  | inr is ↦ let more : position_or_len p (x ∷ text) ≡ 1 + position_or_len p text = cond-true _ _ _ (not_from_false (p x) is) in
      slice_split-cons_no p x text is ∙ ap (onto_first x) (whole p text (omega (arith, more, over)))
]

pub whole_part : (byte : ℕ) (text : List ℕ) → None ≡ parts_at byte text → parts_of byte text ≡ text ∷ []
unfolding parts_at
whole_part byte text is =
    let f = found_none _ (position_or_len (λ x. x == byte) text) (λ place. (take place text, drop (place + 1) text)) is in
    whole (λ x. x == byte) text (ltb-false _ _ f)

-- ---- parts that a byte joins, each read

-- those so far, and those of the rest
abbrev pub with_front : {A : Type 0} → List A → Option (List A) → Option (List A)
with_front front rest = option_map (λ more. front ++ more) rest

front_on : {A : Type 0} (front : List A) (one : A) (rest : Option (List A)) → with_front front (option_map (λ more. one ∷ more) rest) ≡ with_front (front ++ one ∷ []) rest
front_on front one None = refl
front_on front one (Some more) = ap Some (sym (append_assoc front (one ∷ []) more))

module _ {A : Type 0} (byte : ℕ) (read : List ℕ → Option A) (text : List ℕ) (front : List A) (all : Option (List A)) (so_far : with_front front (each_of read (parts_of byte text)) ≡ all) where
  pub part_fails : (part after : List ℕ) → Some (part, after) ≡ parts_at byte text → read part ≡ None → all ≡ None
  part_fails part after is none =
      sym so_far ∙ ap (λ parts. with_front front (each_of read parts)) (cut_parts byte text part after is)
      ∙ ap (λ found. with_front front (found >>= λ one. option_map (λ more. one ∷ more) (each_of read (parts_of byte after)))) none

  pub part_read : (part after : List ℕ) (one : A) → Some (part, after) ≡ parts_at byte text → read part ≡ Some one → with_front (front ++ one ∷ []) (each_of read (parts_of byte after)) ≡ all
  part_read part after one is found =
      sym (ap (λ parts. with_front front (each_of read parts)) (cut_parts byte text part after is)
      ∙ ap (λ first. with_front front (first >>= λ k. option_map (λ more. k ∷ more) (each_of read (parts_of byte after)))) found
      ∙ front_on front one (each_of read (parts_of byte after))) ∙ so_far

  pub last_fails : None ≡ parts_at byte text → read text ≡ None → all ≡ None
  last_fails is none =
      sym so_far ∙ ap (λ parts. with_front front (each_of read parts)) (whole_part byte text is)
      ∙ ap (λ found. with_front front (found >>= λ one. option_map (λ more. one ∷ more) (Some []))) none

  pub last_read : (one : A) → None ≡ parts_at byte text → read text ≡ Some one → all ≡ Some (front ++ one ∷ [])
  last_read one is found =
      sym so_far ∙ ap (λ parts. with_front front (each_of read parts)) (whole_part byte text is)
      ∙ ap (λ first. with_front front (first >>= λ k. option_map (λ more. k ∷ more) (Some []))) found

-- a fault goes on, where there is nothing in the whole wherever there is nothing in a part
pub fails_on : {A B C D : Type 0} (f : A → B) (g : C → D) {one : Option B} {all : Option D} (wrong : ScriptFault) → Gives f (Err wrong) one → (one ≡ None → all ≡ None) → Gives g (Err wrong) all
fails_on f g script_fault.NotALine none then = then none
fails_on f g script_fault.Memory none then = tt

-- ---- words

-- a text is cut at its first such byte
cut_split : (byte : ℕ) (text : List ℕ) → position_or_len (λ x. x == byte) text < length text
    → (text ≡ take (position_or_len (λ x. x == byte) text) text ++ byte ∷ drop (position_or_len (λ x. x == byte) text + 1) text)
    × IsTrue (list_all (λ x. not (x == byte)) (take (position_or_len (λ x. x == byte) text) text))
cut_split byte [] below = absurd (omega arith)
cut_split byte (x ∷ text) below = elim (cases_Bool (x == byte)) [
  | inl is ↦ let none : position_or_len (λ y. y == byte) (x ∷ text) ≡ 0 = cond-false _ _ _ (not_from_true (x == byte) is) in
      rw none (ap (λ b. b ∷ text) (eqb-true x byte is), refl)
  | inr is ↦ let more : position_or_len (λ y. y == byte) (x ∷ text) ≡ suc (position_or_len (λ y. y == byte) text) = cond-true _ _ _ (not_from_false (x == byte) is) ∙ one-add _ in
      let rest = cut_split byte text (omega (arith, more, below)) in
      rw (more, add-one (suc (position_or_len (λ y. y == byte) text))) (ap (λ bytes. x ∷ bytes) (rest.0 ∙ ap (λ k. take (position_or_len (λ y. y == byte) text) text ++ byte ∷ drop k text) (add-one _)), and_from _ _ (not_from_false _ is) rest.1)
]

pub cut_begins : (byte : ℕ) (text front after : List ℕ) → parts_at byte text ≡ Some (front, after) → (text ≡ front ++ byte ∷ after) × IsTrue (list_all (λ x. not (x == byte)) front)
unfolding parts_at
cut_begins byte text front after is =
    let f = found_cut _ (position_or_len (λ x. x == byte) text) (λ place. (take place text, drop (place + 1) text)) (front, after) (sym is) in
    let s = cut_split byte text (ltb-true _ _ f.0) in
    let one : front ≡ take (position_or_len (λ x. x == byte) text) text = ap (λ parts. parts.0) f.1 in
    let two : after ≡ drop (position_or_len (λ x. x == byte) text + 1) text = ap (λ parts. parts.1) f.1 in
    rw (one, two) s

word_length : (byte : ℕ) (word rest : List ℕ) → IsTrue (list_all (λ x. not (x == byte)) word) → position_or_len (λ x. x == byte) (word ++ byte ∷ rest) ≡ length word
word_length byte [] rest none = cond-false _ _ _ (not_from_true (byte == byte) (eq-eqb byte byte refl))
word_length byte (x ∷ word) rest none =
    let p = and_parts (not (x == byte)) _ none in cond-true _ _ _ p.0 ∙ ap (λ k. 1 + k) (word_length byte word rest p.1) ∙ one-add (length word)

pub begins_cut : (byte : ℕ) (word rest : List ℕ) → IsTrue (list_all (λ x. not (x == byte)) word) → parts_at byte (word ++ byte ∷ rest) ≡ Some (word, rest)
unfolding parts_at
begins_cut byte word rest none =
    let long = word_length byte word rest none in
    let inside : position_or_len (λ x. x == byte) (word ++ byte ∷ rest) < length (word ++ byte ∷ rest) = omega (arith, long, length-append word (byte ∷ rest)) in
    ap (option_map (λ place. (take place (word ++ byte ∷ rest), drop (place + 1) (word ++ byte ∷ rest)))) (cond-true _ _ _ (lt-ltb _ _ inside))
    ∙ rw (long) (ap Some (ap (λ front. (front, drop (length word + 1) (word ++ byte ∷ rest))) (take-append_seam word (byte ∷ rest)) ∙ ap (λ after. (word, after)) (drop-append-add word (byte ∷ rest) 1)))

-- ---- what follows from what was found

pub found_first : {A B : Type 0} (o : Option A) (f : A → Option B) (b : B) → (o >>= f) ≡ Some b → (a : A) × (o ≡ Some a) × (f a ≡ Some b)
found_first None f b is = absurd (cc)
found_first (Some a) f b is = (a, refl, is)

pub found_then : {A B : Type 0} (o : Option A) (f : A → Option B) (a : A) (b : Option B) → o ≡ Some a → f a ≡ b → (o >>= f) ≡ b
found_then o f a b first then = ap (λ x. x >>= f) first ∙ then

pub found_map : {A B : Type 0} (f : A → B) (o : Option A) (b : B) → option_map f o ≡ Some b → (a : A) × (o ≡ Some a) × (f a ≡ b)
found_map f None b is = absurd (cc)
found_map f (Some a) b is = let e : f a ≡ b = cc in (a, refl, e)

pub found_if : {B : Type 0} (t : Bool) (o : Option B) (b : B) → cond t o None ≡ Some b → (t ≡ true) × (o ≡ Some b)
found_if true o b is = (refl, is)
found_if false o b is = absurd (cc)

one_or : {B : Type 0} (t : Bool) (first other : Option B) (b : B) → cond t first other ≡ Some b → ((t ≡ true) × (first ≡ Some b)) ⊎ (other ≡ Some b)
one_or true first other b is = inl (refl, is)
one_or false first other b is = inr is

-- ---- a call has a space behind its word, or is one word

-- a word without a space is not the text
not_named : (text name : List ℕ) (place : ℕ) → position (λ x. x == SPACE) text ≡ Some place → position (λ x. x == SPACE) name ≡ None → bytes_eq text name ≡ false
not_named text name place is none = elim (cases_Bool (bytes_eq text name)) [
  | inl same ↦ absurd (no_some (sym none ∙ ap (position (λ x. x == SPACE)) (sym ((bytes_eq-Decides text name).0 same)) ∙ is))
  | inr other ↦ other
]

none_of : {A : Type 0} (a b c : Bool) (x y z : Option A) → a ≡ false → b ≡ false → c ≡ false → cond a x (cond b y (cond c z None)) ≡ None
none_of a b c x y z p q r = rw (p, q, r) refl

not_bare : (moment : ℕ) (text : List ℕ) (place : ℕ) → position (λ x. x == SPACE) text ≡ Some place → bare_of moment text ≡ None
unfolding bare_of
not_bare moment text place is =
    none_of _ _ _ _ _ _ (not_named text (codes "refresh") place is refl) (not_named text (codes "cut") place is refl) (not_named text (codes "logs") place is refl)

pub call_worded : (pass moment : ℕ) (text : List ℕ) (parts : List ℕ × List ℕ) → Some parts ≡ parts_at SPACE text → call_of pass moment text ≡ worded pass moment parts
unfolding call_of parts_at
call_worded pass moment text parts is =
    let space = found_map (λ at. (take at text, drop (at + 1) text)) (position (λ x. x == SPACE) text) parts (sym is) in
    ap (λ bare. plainly_or pass bare (parts_at SPACE text >>= worded pass moment)) (not_bare moment text space.0 space.1)
    ∙ ap (λ found. found >>= worded pass moment) (sym is)

pub call_of_one : (pass moment : ℕ) (text : List ℕ) → None ≡ parts_at SPACE text → call_of pass moment text ≡ plainly_or pass (bare_of moment text) None
unfolding call_of
call_of_one pass moment text is = ap (λ found. plainly_or pass (bare_of moment text) (found >>= worded pass moment)) (sym is)

-- a line of a pass and a moment says what their call says
pub line_calls : (line first rest moment call : List ℕ) (number at : ℕ) → parts_at SPACE line ≡ Some (first, rest) → bytes_eq first (codes "limits") ≡ false → number_below (2 ^ 32) first ≡ Some number → parts_at SPACE rest ≡ Some (moment, call) → number_of moment ≡ Some at
    → line_of line ≡ call_of number at call
unfolding line_of scripted_of
line_calls line first rest moment call number at cut other below cut' is =
    found_then (parts_at SPACE line) _ (first, rest) _ cut
    (cond-false _ _ _ other ∙ found_then (number_below (2 ^ 32) first) _ number _ below (found_then (parts_at SPACE rest) _ (moment, call) _ cut' (found_then (number_of moment) _ at _ is refl)))

-- ---- a line says what is read of it

small_after : (n m : ℕ) (bs : List ℕ) → n < 2 ^ 64 → number_after n bs ≡ Some m → m < 2 ^ 64
small_after n m [] small is = let e : n ≡ m = cc in omega arith
small_after n m (b ∷ bs) small is = let g = found_if _ _ m is in small_after (n * 10 + (b - 48)) m bs (ltb-true _ _ (and_parts _ _ g.0).1) g.1

pub number_says : (text : List ℕ) (n : ℕ) → number_of text ≡ Some n → IsNumber text n
number_says text n is = (some_decimal text (Some n) (sym is), small_after 0 n text (lit< tt) (found_if _ _ n is).1)

pub says_number : (text : List ℕ) (n : ℕ) → IsNumber text n → number_of text ≡ Some n
says_number text n is = decimal_some text (number_of text) refl n is.1 is.0

same_some : {A : Type 0} {x y : A} → Some x ≡ Some y → x ≡ y
same_some is = cc

named : (word name : List ℕ) (one found : Filter) → bytes_eq word name ≡ true → Some one ≡ Some found → name ≡ filter_word one → word ≡ filter_word found
named word name one found same is known = (bytes_eq-Decides word name).0 same ∙ known ∙ ap filter_word (same_some is)

found_target : {E : Type 0} (read : Result Target E) (target : Target) → result_ok read ≡ Some target → read ≡ Ok target
found_target (Ok t) target is = ap Ok (same_some is)
found_target (Err e) target is = absurd (no_some is)

url_says : (url : List ℕ) (target : Target) → url_target url ≡ Some target → IsTarget url None false target
url_says url target is = target_read url None false target (found_target (target_of url None false) target is)

says_url : (url : List ℕ) (target : Target) → IsTarget url None false target → url_target url ≡ Some target
says_url url target is = ap result_ok (target_is_read url None false target is)

keys_say : (urls : List (List ℕ)) (keys : List KeyParts) → each_of key_of_url urls ≡ Some keys → AreKeys urls keys
keys_say [] keys is = subst (AreKeys []) (same_some is) tt
keys_say (url ∷ urls) keys is =
    let first = found_first (key_of_url url) (λ key. option_map (λ more. key ∷ more) (each_of key_of_url urls)) keys is in
    let rest = found_map (λ more. first.0 ∷ more) (each_of key_of_url urls) keys first.2 in
    let target = found_map (λ t. key_of t ignored.None) (url_target url) first.0 first.1 in
    subst (AreKeys (url ∷ urls)) rest.2 ((target.0, url_says url target.0 target.1, sym target.2), keys_say urls rest.0 rest.1)

says_keys : (urls : List (List ℕ)) (keys : List KeyParts) → AreKeys urls keys → each_of key_of_url urls ≡ Some keys
says_keys [] [] is = refl
says_keys [] (key ∷ keys) is = absurd is
says_keys (url ∷ urls) [] is = absurd is
says_keys (url ∷ urls) (key ∷ keys) is =
    found_then (key_of_url url) _ key _ (ap (option_map (λ t. key_of t ignored.None)) (says_url url is.0.0 is.0.1) ∙ ap Some (sym is.0.2))
    (ap (option_map (λ more. key ∷ more)) (says_keys urls keys is.1))

protocol_says : (text : List ℕ) (found : Protocol) → protocol_of text ≡ Some found → IsProtocol text found
unfolding protocol_of
protocol_says text found is = elim (cases_Bool (bytes_eq text (codes "http/1.1"))) [
  | inl http ↦ let same : Http ≡ found = same_some (sym (cond-true _ _ _ http) ∙ is) in subst (IsProtocol text) same ((bytes_eq-Decides text (codes "http/1.1")).0 http)
  | inr other ↦ let g = found_if (bytes_eq text (codes "https/1.1")) (Some Https) found (sym (cond-false _ _ _ other) ∙ is) in
      let same : Https ≡ found = same_some g.1 in subst (IsProtocol text) same ((bytes_eq-Decides text (codes "https/1.1")).0 g.0)
]

says_protocol : (text : List ℕ) (found : Protocol) → IsProtocol text found → protocol_of text ≡ Some found
unfolding protocol_of
says_protocol text Http is = ap (λ t. protocol_of t) is
says_protocol text Https is = ap (λ t. protocol_of t) is

-- ---- the words of `get`

place_says : (address network country : List ℕ) (place : Place) → place_at address network country ≡ Some place → IsPlace address network country place
unfolding place_at
place_says address network country place is =
    let ip = found_first (ip_of address) _ place is in
    let asn = found_first (optional asn_of network) _ place ip.2 in
    let letters = found_first (optional country_of country) _ place asn.2 in
    let same : record { ip = ip.0; asn = asn.0; country = letters.0 } ≡ place = same_some letters.2 in
    subst (IsPlace address network country) same (record { ip = address_from address ip.0 ip.1; asn = network_from_text network asn.0 asn.1; letters = known_country_from_text country letters.0 letters.1 })

says_place : (address network country : List ℕ) (place : Place) → IsPlace address network country place → place_at address network country ≡ Some place
unfolding place_at
says_place address network country place is =
    found_then (ip_of address) _ place.ip _ (address_is address place.ip is.ip)
    (found_then (optional asn_of network) _ place.asn _ (network_is network place.asn is.asn)
    (found_then (optional country_of country) _ place.country _ (known_country_is country place.country is.letters) refl))

asked_says : (method protocol url : List ℕ) (asked : Asked) → asked_of method protocol url ≡ Some asked → IsAsked method protocol url asked
unfolding asked_of
asked_says method protocol url asked is =
    let m = found_if (is_method method) _ asked is in
    let p = found_first (protocol_of protocol) _ asked m.1 in
    let t = found_first (url_target url) _ asked p.2 in
    let same : record { method = method; protocol = p.0; target = t.0 } ≡ asked = same_some t.2 in
    subst (IsAsked method protocol url) same (record { token = m.0; same = refl; spoken = protocol_says protocol p.0 p.1; target = url_says url t.0 t.1 })

says_asked : (method protocol url : List ℕ) (asked : Asked) → IsAsked method protocol url asked → asked_of method protocol url ≡ Some asked
unfolding asked_of
says_asked method protocol url asked is =
    cond-true _ _ _ is.token
    ∙ found_then (protocol_of protocol) _ asked.protocol _ (says_protocol protocol asked.protocol is.spoken)
    (found_then (url_target url) _ asked.target _ (says_url url asked.target is.target) (ap (λ (m : List ℕ). Some (record { method = m; protocol = asked.protocol; target = asked.target })) (sym is.same)))

-- ---- words in a row

word_says : (text word behind : List ℕ) → parts_at SPACE text ≡ Some (word, behind) → (text ≡ word ++ SPACE ∷ behind) × NoSpace word
word_says text word behind is = cut_begins SPACE text word behind is

says_word : (text word behind : List ℕ) → text ≡ word ++ SPACE ∷ behind → NoSpace word → parts_at SPACE text ≡ Some (word, behind)
says_word text word behind is none = ap (parts_at SPACE) is ∙ begins_cut SPACE word behind none

-- the first word is this one
first_is : (text word behind key : List ℕ) → parts_at SPACE text ≡ Some (word, behind) → bytes_eq word key ≡ true → (text ≡ key ++ SPACE ∷ behind) × NoSpace key
first_is text word behind key is same =
    let w = word_says text word behind is in
    let e = (bytes_eq-Decides word key).0 same in
    (w.0 ∙ ap (λ k. k ++ SPACE ∷ behind) e, subst NoSpace e w.1)

meta_says : (moment : ℕ) (text word behind : List ℕ) (said : Noted) → parts_at SPACE text ≡ Some (word, behind) → bytes_eq word (codes "meta") ≡ true → meta_of moment behind ≡ Some said → SaysMeta moment text said
unfolding meta_of
meta_says moment text word behind said cut same is =
    let first = first_is text word behind (codes "meta") cut same in
    let number = found_first (parts_at SPACE behind) _ said is in
    let refresh = found_first (number_of number.0.0) _ said number.2 in
    let urls = found_first (parts_at SPACE number.0.1) _ said refresh.2 in
    let joined = found_map (λ keys. refreshed refresh.0 moment keys (host_index_of_text urls.0.1)) (keys_of urls.0.0) said urls.2 in
    let n = word_says behind number.0.0 number.0.1 number.1 in
    let u = word_says number.0.1 urls.0.0 urls.0.1 urls.1 in
    record {
      number = number.0.0;
      urls = urls.0.0;
      json = urls.0.1;
      refresh = refresh.0;
      keys = joined.0;
      words = (behind, first.0, first.1, (number.0.1, n.0, n.1, (urls.0.1, u.0, u.1, refl)));
      numbered = number_says number.0.0 refresh.0 refresh.1;
      joined = keys_say (parts_of BAR urls.0.0) joined.0 joined.1;
      call = sym joined.2;
    }

says_meta : (moment : ℕ) (text : List ℕ) (said : Noted) → SaysMeta moment text said → (behind : List ℕ) × (text ≡ codes "meta" ++ SPACE ∷ behind) × (meta_of moment behind ≡ Some said)
unfolding meta_of
says_meta moment text said is =
    let first = is.words in
    let number = first.3 in
    let urls = number.3 in (
      first.0,
      first.1,
      found_then (parts_at SPACE first.0) _ (is.number, number.0) _ (says_word first.0 is.number number.0 number.1 number.2)
          (found_then (number_of is.number) _ is.refresh _ (says_number is.number is.refresh is.numbered)
          (found_then (parts_at SPACE number.0) _ (is.urls, urls.0) _ (says_word number.0 is.urls urls.0 urls.1 urls.2)
          (ap (option_map (λ keys. refreshed is.refresh moment keys (host_index_of_text urls.0))) (says_keys (parts_of BAR is.urls) is.keys is.joined)
          ∙ ap (λ json. Some (refreshed is.refresh moment is.keys (host_index_of_text json))) urls.3 ∙ ap Some (sym is.call)))),
    )

said_plainly : (event read : Event) (said : Noted) → plain event ≡ said → read ≡ event → said ≡ plain read
said_plainly event read said is same = sym is ∙ ap plain (sym same)

get_says : (moment : ℕ) (text word behind : List ℕ) (said : Noted) → parts_at SPACE text ≡ Some (word, behind) → bytes_eq word (codes "get") ≡ true → option_map plain (get_of moment behind) ≡ Some said → SaysGet moment text said
unfolding get_of
get_says moment text word behind said cut same is =
    let first = first_is text word behind (codes "get") cut same in
    let event = found_map plain (get_of moment behind) said is in
    let method = found_first (parts_at SPACE behind) _ event.0 event.1 in
    let protocol = found_first (parts_at SPACE method.0.1) _ event.0 method.2 in
    let address = found_first (parts_at SPACE protocol.0.1) _ event.0 protocol.2 in
    let network = found_first (parts_at SPACE address.0.1) _ event.0 address.2 in
    let country = found_first (parts_at SPACE network.0.1) _ event.0 network.2 in
    let place = found_first (place_at address.0.0 network.0.0 country.0.0) _ event.0 country.2 in
    let asked = found_map (λ asked. Admit (request_of asked place.0 []) moment) (asked_of method.0.0 protocol.0.0 country.0.1) event.0 place.2 in
    let m = word_says behind method.0.0 method.0.1 method.1 in
    let p = word_says method.0.1 protocol.0.0 protocol.0.1 protocol.1 in
    let a = word_says protocol.0.1 address.0.0 address.0.1 address.1 in
    let n = word_says address.0.1 network.0.0 network.0.1 network.1 in
    let c = word_says network.0.1 country.0.0 country.0.1 country.1 in
    record {
      method = method.0.0;
      protocol = protocol.0.0;
      address = address.0.0;
      network = network.0.0;
      country = country.0.0;
      url = country.0.1;
      asked = asked.0;
      place = place.0;
      words = (behind, first.0, first.1, (method.0.1, m.0, m.1, (protocol.0.1, p.0, p.1, (address.0.1, a.0, a.1, (network.0.1, n.0, n.1, (country.0.1, c.0, c.1, refl))))));
      asks = asked_says method.0.0 protocol.0.0 country.0.1 asked.0 asked.1;
      placed = place_says address.0.0 network.0.0 country.0.0 place.0 place.1;
      call = said_plainly event.0 (Admit (request_of asked.0 place.0 []) moment) said event.2 asked.2;
    }

says_get : (moment : ℕ) (text : List ℕ) (said : Noted) → SaysGet moment text said → (behind : List ℕ) × (text ≡ codes "get" ++ SPACE ∷ behind) × (option_map plain (get_of moment behind) ≡ Some said)
unfolding get_of
says_get moment text said is =
    let first = is.words in
    let m = first.3 in
    let p = m.3 in
    let a = p.3 in
    let n = a.3 in
    let c = n.3 in (
      first.0,
      first.1,
      ap (option_map plain)
          (found_then (parts_at SPACE first.0) _ (is.method, m.0) _ (says_word first.0 is.method m.0 m.1 m.2)
          (found_then (parts_at SPACE m.0) _ (is.protocol, p.0) _ (says_word m.0 is.protocol p.0 p.1 p.2)
          (found_then (parts_at SPACE p.0) _ (is.address, a.0) _ (says_word p.0 is.address a.0 a.1 a.2)
          (found_then (parts_at SPACE a.0) _ (is.network, n.0) _ (says_word a.0 is.network n.0 n.1 n.2)
          (found_then (parts_at SPACE n.0) _ (is.country, c.0) _ (says_word n.0 is.country c.0 c.1 c.2)
          (found_then (place_at is.address is.network is.country) _ is.place _ (says_place is.address is.network is.country is.place is.placed)
          (ap (option_map (λ asked. Admit (request_of asked is.place []) moment)) (ap (asked_of is.method is.protocol) c.3 ∙ says_asked is.method is.protocol is.url is.asked is.asks))))))))
          ∙ ap Some (sym is.call),
    )

-- ---- the words of `got`, `lost`, `metafail` and `finish`

found_ok : {A E : Type 0} (read : Result A E) (a : A) → result_ok read ≡ Some a → read ≡ Ok a
found_ok (Ok b) a is = ap Ok (same_some is)
found_ok (Err e) a is = absurd (no_some is)

no_dash : (word : List ℕ) → bytes_eq word (codes "-") ≡ false → word ≢ codes "-"
no_dash word other same = both_ways _ other ((bytes_eq-Decides word (codes "-")).1 same)

other_dash : (word : List ℕ) → word ≢ codes "-" → bytes_eq word (codes "-") ≡ false
other_dash word other = elim (cases_Bool (bytes_eq word (codes "-"))) [
  | inl same ↦ absurd (other ((bytes_eq-Decides word (codes "-")).0 same))
  | inr differs ↦ differs
]

kind_says : (word kind : List ℕ) → kind_of word ≡ Some kind → IsKind word kind
unfolding kind_of
kind_says word kind is = elim (cases_Bool (bytes_eq word (codes "-"))) [
  | inl dash ↦ inl ((bytes_eq-Decides word (codes "-")).0 dash, sym (same_some (sym (cond-true _ _ _ dash) ∙ is)))
  | inr other ↦
      let g = found_if (is_kind word) (Some word) kind (sym (cond-false _ _ _ other) ∙ is) in
      inr (no_dash word other, g.0, sym (same_some g.1))
]

says_kind : (word kind : List ℕ) → IsKind word kind → kind_of word ≡ Some kind
unfolding kind_of
says_kind word kind (inl is) = cond-true _ _ _ ((bytes_eq-Decides word (codes "-")).1 is.0) ∙ ap Some (sym is.1)
says_kind word kind (inr is) = cond-false _ _ _ (other_dash word is.0) ∙ cond-true _ _ _ is.1 ∙ ap Some (sym is.2)

body_says : (word body : List ℕ) → body_of word ≡ Some body → IsBody word body
unfolding body_of
body_says word body is = elim (cases_Bool (bytes_eq word (codes "-"))) [
  | inl dash ↦ inl ((bytes_eq-Decides word (codes "-")).0 dash, sym (same_some (sym (cond-true _ _ _ dash) ∙ is)))
  | inr other ↦
      let g = found_if (nat_lt 0 (length word)) (result_ok (decode_of word)) body (sym (cond-false _ _ _ other) ∙ is) in
      inr (no_dash word other, ltb-true _ _ g.0, found_ok (decode_of word) body g.1)
]

says_body : (word body : List ℕ) → IsBody word body → body_of word ≡ Some body
unfolding body_of
says_body word body (inl is) = cond-true _ _ _ ((bytes_eq-Decides word (codes "-")).1 is.0) ∙ ap Some (sym is.1)
says_body word body (inr is) = cond-false _ _ _ (other_dash word is.0) ∙ cond-true _ _ _ (lt-ltb _ _ is.1) ∙ ap result_ok is.2

status_small : (n : ℕ) → is_got_status n ≡ true → n < 2 ^ 16
status_small n is = elim (or_cases (n == 200 || n == 404) (n == 410) is) [
  | inl one ↦ elim (or_cases (n == 200) (n == 404) one) [
    | inl ok ↦ let e = eqb-true n 200 ok in omega (arith, e)
    | inr missing ↦ let e = eqb-true n 404 missing in omega (arith, e)
  ]
  | inr gone ↦ let e = eqb-true n 410 gone in omega (arith, e)
]

below_says : (bound : ℕ) (text : List ℕ) (n : ℕ) → number_below bound text ≡ Some n → IsNumber text n × (n < bound)
unfolding number_below
below_says bound text n is =
    let found = found_first (number_of text) _ n is in
    let below = found_if (nat_lt found.0 bound) (Some found.0) n found.2 in
    let same : found.0 ≡ n = same_some below.1 in
    (subst (IsNumber text) same (number_says text found.0 found.1), subst (λ k. k < bound) same (ltb-true _ _ below.0))

says_below : (bound : ℕ) (text : List ℕ) (n : ℕ) → IsNumber text n → n < bound → number_below bound text ≡ Some n
unfolding number_below
says_below bound text n is below = found_then (number_of text) _ n _ (says_number text n is) (cond-true _ _ _ (lt-ltb _ _ below))

between_says : (least most : ℕ) (text : List ℕ) (n : ℕ) → number_between least most text ≡ Some n → IsNumber text n × (least ≤ n) × (n ≤ most)
unfolding number_between
between_says least most text n is =
    let found = found_first (number_of text) _ n is in
    let within = found_if (nat_le least found.0 && nat_le found.0 most) (Some found.0) n found.2 in
    let same : found.0 ≡ n = same_some within.1 in
    let parts = and_parts (nat_le least found.0) (nat_le found.0 most) within.0 in
    subst (λ k. IsNumber text k × (least ≤ k) × (k ≤ most)) same (number_says text found.0 found.1, leb-true _ _ parts.0, leb-true _ _ parts.1)

says_between : (least most : ℕ) (text : List ℕ) (n : ℕ) → IsNumber text n → least ≤ n → n ≤ most → number_between least most text ≡ Some n
unfolding number_between
says_between least most text n is low high =
    found_then (number_of text) _ n _ (says_number text n is) (cond-true _ _ _ (and_from (nat_le least n) (nat_le n most) (le-leb _ _ low) (le-leb _ _ high)))

content_says : (status kind hex : List ℕ) (got : GotParts) → content_of status kind hex ≡ Some got → IsNumber status got.status × IsKind kind got.kind × IsBody hex got.body × IsGot got
unfolding content_of
content_says status kind hex got is =
    let code = found_first (number_below (2 ^ 16) status) _ got is in
    let name = found_first (kind_of kind) _ got code.2 in
    let body = found_first (body_of hex) _ got name.2 in
    let one : GotParts = record { status = code.0; kind = name.0; body = body.0 } in
    let fits = found_if (is_got_status code.0 && nat_le (length body.0) BODY_MAX) (Some one) got body.2 in
    let same : one ≡ got = same_some fits.1 in
    let parts = and_parts (is_got_status code.0) (nat_le (length body.0) BODY_MAX) fits.0 in
    subst (λ g. IsNumber status g.status × IsKind kind g.kind × IsBody hex g.body × IsGot g) same
    ((below_says (2 ^ 16) status code.0 code.1).0, kind_says kind name.0 name.1, body_says hex body.0 body.1, (parts.0, leb-true _ _ parts.1))

says_content : (status kind hex : List ℕ) (got : GotParts) → IsNumber status got.status → IsKind kind got.kind → IsBody hex got.body → IsGot got → content_of status kind hex ≡ Some got
unfolding content_of
says_content status kind hex got coded named filled fits =
    found_then (number_below (2 ^ 16) status) _ got.status _ (says_below (2 ^ 16) status got.status coded (status_small got.status fits.0))
    (found_then (kind_of kind) _ got.kind _ (says_kind kind got.kind named)
    (found_then (body_of hex) _ got.body _ (says_body hex got.body filled)
    (cond-true _ _ _ (and_from (is_got_status got.status) (nat_le (length got.body) BODY_MAX) fits.0 (le-leb _ _ fits.1)))))

got_says : (moment : ℕ) (text word behind : List ℕ) (said : Noted) → parts_at SPACE text ≡ Some (word, behind) → bytes_eq word (codes "got") ≡ true → option_map plain (got_of moment behind) ≡ Some said → SaysGot moment text said
unfolding got_of
got_says moment text word behind said cut same is =
    let first = first_is text word behind (codes "got") cut same in
    let event = found_map plain (got_of moment behind) said is in
    let fetch = found_first (parts_at SPACE behind) _ event.0 event.1 in
    let number = found_first (number_of fetch.0.0) _ event.0 fetch.2 in
    let status = found_first (parts_at SPACE fetch.0.1) _ event.0 number.2 in
    let kind = found_first (parts_at SPACE status.0.1) _ event.0 status.2 in
    let got = found_map (λ got. FetchEnd number.0 (outcome.Got got) moment) (content_of status.0.0 kind.0.0 kind.0.1) event.0 kind.2 in
    let f = word_says behind fetch.0.0 fetch.0.1 fetch.1 in
    let s = word_says fetch.0.1 status.0.0 status.0.1 status.1 in
    let k = word_says status.0.1 kind.0.0 kind.0.1 kind.1 in
    let content = content_says status.0.0 kind.0.0 kind.0.1 got.0 got.1 in
    record {
      number = fetch.0.0;
      status = status.0.0;
      kind = kind.0.0;
      hex = kind.0.1;
      fetch = number.0;
      got = got.0;
      words = (behind, first.0, first.1, (fetch.0.1, f.0, f.1, (status.0.1, s.0, s.1, (kind.0.1, k.0, k.1, refl))));
      numbered = number_says fetch.0.0 number.0 number.1;
      coded = content.0;
      named = content.1;
      filled = content.2;
      given = content.3;
      call = said_plainly event.0 (FetchEnd number.0 (outcome.Got got.0) moment) said event.2 got.2;
    }

says_got : (moment : ℕ) (text : List ℕ) (said : Noted) → SaysGot moment text said → (behind : List ℕ) × (text ≡ codes "got" ++ SPACE ∷ behind) × (option_map plain (got_of moment behind) ≡ Some said)
unfolding got_of
says_got moment text said is =
    let first = is.words in
    let f = first.3 in
    let s = f.3 in
    let k = s.3 in (
      first.0,
      first.1,
      ap (option_map plain)
          (found_then (parts_at SPACE first.0) _ (is.number, f.0) _ (says_word first.0 is.number f.0 f.1 f.2)
          (found_then (number_of is.number) _ is.fetch _ (says_number is.number is.fetch is.numbered)
          (found_then (parts_at SPACE f.0) _ (is.status, s.0) _ (says_word f.0 is.status s.0 s.1 s.2)
          (found_then (parts_at SPACE s.0) _ (is.kind, k.0) _ (says_word s.0 is.kind k.0 k.1 k.2)
          (ap (option_map (λ got. FetchEnd is.fetch (outcome.Got got) moment)) (ap (content_of is.status is.kind) k.3 ∙ says_content is.status is.kind is.hex is.got is.coded is.named is.filled is.given))))))
          ∙ ap Some (sym is.call),
    )

one_says : (word : List ℕ) (event : ℕ → Event) (text first behind : List ℕ) (said : Noted) → parts_at SPACE text ≡ Some (first, behind) → bytes_eq first word ≡ true → option_map plain (one_of event behind) ≡ Some said → SaysOne word event text said
one_says word event text first behind said cut same is =
    let begins = first_is text first behind word cut same in
    let made = found_map plain (one_of event behind) said is in
    let number = found_map event (number_of behind) made.0 made.1 in
    record {
      digits = behind;
      number = number.0;
      words = (behind, begins.0, begins.1, refl);
      numbered = number_says behind number.0 number.1;
      call = said_plainly made.0 (event number.0) said made.2 number.2;
    }

says_one : (word : List ℕ) (event : ℕ → Event) (text : List ℕ) (said : Noted) → SaysOne word event text said → (behind : List ℕ) × (text ≡ word ++ SPACE ∷ behind) × (option_map plain (one_of event behind) ≡ Some said)
says_one word event text said is =
    let first = is.words in
    (first.0, first.1, ap (λ t. option_map plain (one_of event t)) first.3 ∙ ap (λ n. option_map plain (option_map event n)) (says_number is.digits is.number is.numbered) ∙ ap Some (sym is.call))

numbers_read : (texts : List (List ℕ)) (numbers : List ℕ) → each_of number_of texts ≡ Some numbers → AreNumbers texts numbers
numbers_read [] numbers is = subst (AreNumbers []) (same_some is) tt
numbers_read (text ∷ texts) numbers is =
    let first = found_first (number_of text) (λ n. option_map (λ more. n ∷ more) (each_of number_of texts)) numbers is in
    let rest = found_map (λ more. first.0 ∷ more) (each_of number_of texts) numbers first.2 in
    subst (AreNumbers (text ∷ texts)) rest.2 (number_says text first.0 first.1, numbers_read texts rest.0 rest.1)

read_numbers : (texts : List (List ℕ)) (numbers : List ℕ) → AreNumbers texts numbers → each_of number_of texts ≡ Some numbers
read_numbers [] [] is = refl
read_numbers [] (number ∷ numbers) is = absurd is
read_numbers (text ∷ texts) [] is = absurd is
read_numbers (text ∷ texts) (number ∷ numbers) is =
    found_then (number_of text) _ number _ (says_number text number is.0) (ap (option_map (λ more. number ∷ more)) (read_numbers texts numbers is.1))

cancel_says : (moment : ℕ) (text word behind : List ℕ) (said : Noted) → parts_at SPACE text ≡ Some (word, behind) → bytes_eq word (codes "cancel") ≡ true → option_map plain (cancel_of moment behind) ≡ Some said → SaysCancel moment text said
cancel_says moment text word behind said cut same is =
    let first = first_is text word behind (codes "cancel") cut same in
    let event = found_map plain (cancel_of moment behind) said is in
    let ids = found_map (λ ids. Cancel ids moment) (each_of number_of (parts_of COMMA behind)) event.0 event.1 in
    record {
      list = behind;
      ids = ids.0;
      words = (behind, first.0, first.1, refl);
      numbered = numbers_read (parts_of COMMA behind) ids.0 ids.1;
      call = said_plainly event.0 (Cancel ids.0 moment) said event.2 ids.2;
    }

says_cancel : (moment : ℕ) (text : List ℕ) (said : Noted) → SaysCancel moment text said → (behind : List ℕ) × (text ≡ codes "cancel" ++ SPACE ∷ behind) × (option_map plain (cancel_of moment behind) ≡ Some said)
says_cancel moment text said is =
    let first = is.words in
    (first.0, first.1, ap (λ t. option_map plain (cancel_of moment t)) first.3 ∙ ap (λ ids. option_map plain (option_map (λ all. Cancel all moment) ids)) (read_numbers (parts_of COMMA is.list) is.ids is.numbered) ∙ ap Some (sym is.call))

filter_is : (word : List ℕ) (found : Filter) → filter_of word ≡ Some found → word ≡ filter_word found
unfolding filter_of
filter_is word found is = elim (one_or (bytes_eq word (codes "all")) _ _ found is) [
  | inl all ↦ named word (codes "all") filter.All found all.0 all.1 refl
  | inr more ↦ elim (one_or (bytes_eq word (codes "pending")) _ _ found more) [
    | inl pending ↦ named word (codes "pending") filter.Pending found pending.0 pending.1 refl
    | inr more ↦ elim (one_or (bytes_eq word (codes "active")) _ _ found more) [
      | inl active ↦ named word (codes "active") filter.Active found active.0 active.1 refl
      | inr more ↦ elim (one_or (bytes_eq word (codes "complete")) _ _ found more) [
        | inl complete ↦ named word (codes "complete") filter.Complete found complete.0 complete.1 refl
        | inr more ↦
            let last = found_if (bytes_eq word (codes "failed")) (Some filter.Failed) found more in
            named word (codes "failed") filter.Failed found last.0 last.1 refl
      ]
    ]
  ]
]

is_filter : (word : List ℕ) (found : Filter) → word ≡ filter_word found → filter_of word ≡ Some found
unfolding filter_of
is_filter word filter.All is = ap filter_of is
is_filter word filter.Pending is = ap filter_of is
is_filter word filter.Active is = ap filter_of is
is_filter word filter.Complete is = ap filter_of is
is_filter word filter.Failed is = ap filter_of is

list_says : (text word behind : List ℕ) (said : Noted) → parts_at SPACE text ≡ Some (word, behind) → bytes_eq word (codes "list") ≡ true → option_map plain (list_of behind) ≡ Some said → SaysList text said
list_says text word behind said cut same is =
    let first = first_is text word behind (codes "list") cut same in
    let event = found_map plain (list_of behind) said is in
    let listed = found_map Lists (filter_of behind) event.0 event.1 in
    record {
      filter = listed.0;
      words = (behind, first.0, first.1, filter_is behind listed.0 listed.1);
      call = said_plainly event.0 (Lists listed.0) said event.2 listed.2;
    }

says_list : (text : List ℕ) (said : Noted) → SaysList text said → (behind : List ℕ) × (text ≡ codes "list" ++ SPACE ∷ behind) × (option_map plain (list_of behind) ≡ Some said)
says_list text said is =
    let first = is.words in
    (first.0, first.1, ap (λ found. option_map plain (option_map Lists found)) (is_filter first.0 is.filter first.3) ∙ ap Some (sym is.call))

finish_says : (moment : ℕ) (text word behind : List ℕ) (said : Noted) → parts_at SPACE text ≡ Some (word, behind) → bytes_eq word (codes "finish") ≡ true → option_map plain (finish_of moment behind) ≡ Some said → SaysFinish moment text said
unfolding finish_of
finish_says moment text word behind said cut same is =
    let first = first_is text word behind (codes "finish") cut same in
    let event = found_map plain (finish_of moment behind) said is in
    let delivery = found_first (parts_at SPACE behind) _ event.0 event.1 in
    let number = found_first (number_of delivery.0.0) _ event.0 delivery.2 in
    let status = found_first (parts_at SPACE delivery.0.1) _ event.0 number.2 in
    let code = found_first (number_between 100 999 status.0.0) _ event.0 status.2 in
    let total = found_first (parts_at SPACE status.0.1) _ event.0 code.2 in
    let sent = found_first (number_of total.0.0) _ event.0 total.2 in
    let content = found_map (λ entity. Finish number.0 code.0 sent.0 entity moment) (number_of total.0.1) event.0 sent.2 in
    let d = word_says behind delivery.0.0 delivery.0.1 delivery.1 in
    let s = word_says delivery.0.1 status.0.0 status.0.1 status.1 in
    let t = word_says status.0.1 total.0.0 total.0.1 total.1 in
    let coded = between_says 100 999 status.0.0 code.0 code.1 in
    record {
      number = delivery.0.0;
      status = status.0.0;
      total = total.0.0;
      entity = total.0.1;
      delivery = number.0;
      code = code.0;
      sent = sent.0;
      content = content.0;
      words = (behind, first.0, first.1, (delivery.0.1, d.0, d.1, (status.0.1, s.0, s.1, (total.0.1, t.0, t.1, refl))));
      numbered = number_says delivery.0.0 number.0 number.1;
      coded = coded.0;
      ranged = (coded.1, coded.2);
      whole = number_says total.0.0 sent.0 sent.1;
      part = number_says total.0.1 content.0 content.1;
      call = said_plainly event.0 (Finish number.0 code.0 sent.0 content.0 moment) said event.2 content.2;
    }

says_finish : (moment : ℕ) (text : List ℕ) (said : Noted) → SaysFinish moment text said → (behind : List ℕ) × (text ≡ codes "finish" ++ SPACE ∷ behind) × (option_map plain (finish_of moment behind) ≡ Some said)
unfolding finish_of
says_finish moment text said is =
    let first = is.words in
    let d = first.3 in
    let s = d.3 in
    let t = s.3 in (
      first.0,
      first.1,
      ap (option_map plain)
          (found_then (parts_at SPACE first.0) _ (is.number, d.0) _ (says_word first.0 is.number d.0 d.1 d.2)
          (found_then (number_of is.number) _ is.delivery _ (says_number is.number is.delivery is.numbered)
          (found_then (parts_at SPACE d.0) _ (is.status, s.0) _ (says_word d.0 is.status s.0 s.1 s.2)
          (found_then (number_between 100 999 is.status) _ is.code _ (says_between 100 999 is.status is.code is.coded is.ranged.0 is.ranged.1)
          (found_then (parts_at SPACE s.0) _ (is.total, t.0) _ (says_word s.0 is.total t.0 t.1 t.2)
          (found_then (number_of is.total) _ is.sent _ (says_number is.total is.sent is.whole)
          (ap (option_map (λ entity. Finish is.delivery is.code is.sent entity moment)) (ap number_of t.3 ∙ says_number is.entity is.content is.part))))))))
          ∙ ap Some (sym is.call),
    )

triggers_say : (moment : ℕ) (text word behind : List ℕ) (said : Noted) → parts_at SPACE text ≡ Some (word, behind) → (event : Event) → of_triggers moment word behind ≡ Some event → plain event ≡ said → SaysOfTriggers moment text said
unfolding of_triggers
triggers_say moment text word behind said cut event is same =
    let plainly : (o : Option Event) → o ≡ Some event → option_map plain o ≡ Some said = λ o found. ap (option_map plain) found ∙ ap Some same in
    elim (one_or (bytes_eq word (codes "advance")) _ _ event is) [
      | inl advance ↦ inl (one_says (codes "advance") _ text word behind said cut advance.0 (plainly _ advance.1))
      | inr more ↦ inr (elim (one_or (bytes_eq word (codes "cancel")) _ _ event more) [
        | inl cancel ↦ inl (cancel_says moment text word behind said cut cancel.0 (plainly _ cancel.1))
        | inr more ↦ inr (elim (one_or (bytes_eq word (codes "delete")) _ _ event more) [
          | inl delete ↦ inl (one_says (codes "delete") _ text word behind said cut delete.0 (plainly _ delete.1))
          | inr more ↦ inr (elim (one_or (bytes_eq word (codes "status")) _ _ event more) [
            | inl status ↦ inl (one_says (codes "status") _ text word behind said cut status.0 (plainly _ status.1))
            | inr more ↦
                let last = found_if (bytes_eq word (codes "list")) (list_of behind) event more in
                inr (list_says text word behind said cut last.0 (plainly _ last.1))
          ])
        ])
      ])
    ]

numbers_say : (moment : ℕ) (text word behind : List ℕ) (said : Noted) → parts_at SPACE text ≡ Some (word, behind) → option_map plain (of_numbers moment word behind) ≡ Some said → SaysOfNumbers moment text said
unfolding of_numbers
numbers_say moment text word behind said cut is =
    let event = found_map plain (of_numbers moment word behind) said is in
    let plainly : (o : Option Event) → o ≡ Some event.0 → option_map plain o ≡ Some said = λ o found. ap (option_map plain) found ∙ ap Some event.2 in
    elim (one_or (bytes_eq word (codes "finish")) _ _ event.0 event.1) [
      | inl finish ↦ inl (finish_says moment text word behind said cut finish.0 (plainly _ finish.1))
      | inr more ↦ inr (elim (one_or (bytes_eq word (codes "lost")) _ _ event.0 more) [
        | inl lost ↦ inl (one_says (codes "lost") _ text word behind said cut lost.0 (plainly _ lost.1))
        | inr more ↦ inr (elim (one_or (bytes_eq word (codes "metafail")) _ _ event.0 more) [
          | inl metafail ↦ inl (one_says (codes "metafail") _ text word behind said cut metafail.0 (plainly _ metafail.1))
          | inr more ↦ inr (elim (one_or (bytes_eq word (codes "log")) _ _ event.0 more) [
            | inl log ↦ inl (one_says (codes "log") _ text word behind said cut log.0 (plainly _ log.1))
            | inr more ↦ inr (elim (one_or (bytes_eq word (codes "droplog")) _ _ event.0 more) [
              | inl droplog ↦ inl (one_says (codes "droplog") _ text word behind said cut droplog.0 (plainly _ droplog.1))
              | inr more ↦ inr (triggers_say moment text word behind said cut event.0 more event.2)
            ])
          ])
        ])
      ])
    ]

-- ---- calls and lines

bare_says : (moment : ℕ) (text : List ℕ) (event : Event) → bare_of moment text ≡ Some event → SaysBare moment text (plain event)
unfolding bare_of
bare_says moment text event is = elim (cases_Bool (bytes_eq text (codes "refresh"))) [
  | inl refresh ↦ inl ((bytes_eq-Decides text (codes "refresh")).0 refresh, ap plain (sym (same_some (sym (cond-true _ _ _ refresh) ∙ is))))
  | inr no_refresh ↦ inr (elim (cases_Bool (bytes_eq text (codes "cut"))) [
    | inl cut ↦ inl ((bytes_eq-Decides text (codes "cut")).0 cut, ap plain (sym (same_some (sym (cond-true _ _ _ cut) ∙ sym (cond-false _ _ _ no_refresh) ∙ is))))
    | inr no_cut ↦
        let last = found_if (bytes_eq text (codes "logs")) (Some ListLogs) event (sym (cond-false _ _ _ no_cut) ∙ sym (cond-false _ _ _ no_refresh) ∙ is) in
        inr ((bytes_eq-Decides text (codes "logs")).0 last.0, ap plain (sym (same_some last.1)))
  ])
]

-- what a line says behind its pass and moment
abbrev pub Spoken : ℕ → ℕ → List ℕ → Said → Type 0
Spoken pass moment text (Sets limits) = ⊥
Spoken pass moment text (Calls scripted) = (scripted.0 ≡ pass) × SaysCall moment text scripted.1
Spoken pass moment text (Refuses fault) = SaysRefusal text fault

command_says : (pass moment : ℕ) (text word behind : List ℕ) (read : Judged Command) → parts_at SPACE text ≡ Some (word, behind) → bytes_eq word (codes "command") ≡ true → command_of own_id control_host behind ≡ read → Spoken pass moment text (commanded pass moment read)
command_says pass moment text word behind (Ok command) cut same is =
    let first = first_is text word behind (codes "command") cut same in
    (refl, inr (inr (inr (inr (inl (record { json = behind; command = command; words = (behind, first.0, first.1, refl); reads = is; call = refl }))))))
command_says pass moment text word behind (Err fault) cut same is =
    let first = first_is text word behind (codes "command") cut same in
    record { json = behind; words = (behind, first.0, first.1, refl); fails = is }

-- what is noted of a call of the pass is what is said
noted_says : (pass moment : ℕ) (text : List ℕ) (found : Option Noted) (said : Said) → option_map (on_pass pass) found ≡ Some said → ((noted : Noted) → found ≡ Some noted → SaysCall moment text noted) → Spoken pass moment text said
noted_says pass moment text found said is says =
    let noted = found_map (on_pass pass) found said is in
    subst (Spoken pass moment text) noted.2 (refl, says noted.0 noted.1)

worded_says : (pass moment : ℕ) (text word behind : List ℕ) (said : Said) → parts_at SPACE text ≡ Some (word, behind) → worded pass moment (word, behind) ≡ Some said → Spoken pass moment text said
unfolding worded
worded_says pass moment text word behind said cut is = elim (one_or (bytes_eq word (codes "get")) _ _ said is) [
  | inl get ↦ noted_says pass moment text _ said get.1 (λ noted found. inr (inl (get_says moment text word behind noted cut get.0 found)))
  | inr no_get ↦ elim (one_or (bytes_eq word (codes "got")) _ _ said no_get) [
    | inl got ↦ noted_says pass moment text _ said got.1 (λ noted found. inr (inr (inl (got_says moment text word behind noted cut got.0 found))))
    | inr no_got ↦ elim (one_or (bytes_eq word (codes "meta")) _ _ said no_got) [
      | inl meta ↦ noted_says pass moment text _ said meta.1 (λ noted found. inr (inr (inr (inl (meta_says moment text word behind noted cut meta.0 found)))))
      | inr no_meta ↦ elim (one_or (bytes_eq word (codes "command")) _ _ said no_meta) [
        | inl command ↦ subst (Spoken pass moment text) (same_some command.1) (command_says pass moment text word behind (command_of own_id control_host behind) cut command.0 refl)
        | inr no_command ↦ noted_says pass moment text _ said no_command (λ noted found. inr (inr (inr (inr (inr (numbers_say moment text word behind noted cut found))))))
      ]
    ]
  ]
]

call_says_by : (pass moment : ℕ) (text : List ℕ) (said : Said) (found : Option Event) → bare_of moment text ≡ found → plainly_or pass found (parts_at SPACE text >>= worded pass moment) ≡ Some said → Spoken pass moment text said
call_says_by pass moment text said (Some event) is same = subst (Spoken pass moment text) (same_some same) (refl, inl (bare_says moment text event is))
call_says_by pass moment text said None is same =
    let word = found_first (parts_at SPACE text) (worded pass moment) said same in
    worded_says pass moment text word.0.0 word.0.1 said word.1 word.2

call_says : (pass moment : ℕ) (text : List ℕ) (said : Said) → call_of pass moment text ≡ Some said → Spoken pass moment text said
unfolding call_of
call_says pass moment text said is = call_says_by pass moment text said (bare_of moment text) refl is

says_word_call : (pass moment : ℕ) (text word behind : List ℕ) (said : Said) → NoSpace word → call_of pass moment (word ++ SPACE ∷ behind) ≡ (parts_at SPACE (word ++ SPACE ∷ behind) >>= worded pass moment) → text ≡ word ++ SPACE ∷ behind → worded pass moment (word, behind) ≡ Some said → call_of pass moment text ≡ Some said
says_word_call pass moment text word behind said none is same worded_is =
    ap (call_of pass moment) same ∙ is ∙ found_then (parts_at SPACE (word ++ SPACE ∷ behind)) (worded pass moment) (word, behind) _ (begins_cut SPACE word behind none) worded_is

says_command : (pass moment : ℕ) (text json : List ℕ) (read : Judged Command) → IsWords (codes "command" ∷ []) json text → command_of own_id control_host json ≡ read → call_of pass moment text ≡ Some (commanded pass moment read)
unfolding call_of bare_of worded
says_command pass moment text json read words is =
    says_word_call pass moment text (codes "command") words.0 (commanded pass moment read) refl refl words.1 (ap (λ t. Some (commanded pass moment (command_of own_id control_host t))) words.3 ∙ ap (λ r. Some (commanded pass moment r)) is)

says_call : (pass moment : ℕ) (text : List ℕ) (said : Noted) → SaysCall moment text said → call_of pass moment text ≡ Some (on_pass pass said)
unfolding call_of bare_of worded of_numbers of_triggers
says_call pass moment text said (inl (inl is)) = ap (call_of pass moment) is.0 ∙ ap (λ s. Some (on_pass pass s)) (sym is.1)
says_call pass moment text said (inl (inr (inl is))) = ap (call_of pass moment) is.0 ∙ ap (λ s. Some (on_pass pass s)) (sym is.1)
says_call pass moment text said (inl (inr (inr is))) = ap (call_of pass moment) is.0 ∙ ap (λ s. Some (on_pass pass s)) (sym is.1)
says_call pass moment text said (inr (inl is)) = let m = says_get moment text said is in says_word_call pass moment text (codes "get") m.0 (on_pass pass said) refl refl m.1 (ap (option_map (on_pass pass)) m.2)
says_call pass moment text said (inr (inr (inl is))) = let m = says_got moment text said is in says_word_call pass moment text (codes "got") m.0 (on_pass pass said) refl refl m.1 (ap (option_map (on_pass pass)) m.2)
says_call pass moment text said (inr (inr (inr (inl is)))) = let m = says_meta moment text said is in says_word_call pass moment text (codes "meta") m.0 (on_pass pass said) refl refl m.1 (ap (option_map (on_pass pass)) m.2)
says_call pass moment text said (inr (inr (inr (inr (inl is))))) = says_command pass moment text is.json (Ok is.command) is.words is.reads ∙ ap (λ s. Some (on_pass pass s)) (sym is.call)
says_call pass moment text said (inr (inr (inr (inr (inr (inl is)))))) = let m = says_finish moment text said is in says_word_call pass moment text (codes "finish") m.0 (on_pass pass said) refl refl m.1 (ap (option_map (on_pass pass)) m.2)
says_call pass moment text said (inr (inr (inr (inr (inr (inr (inl is))))))) = let m = says_one (codes "lost") _ text said is in says_word_call pass moment text (codes "lost") m.0 (on_pass pass said) refl refl m.1 (ap (option_map (on_pass pass)) m.2)
says_call pass moment text said (inr (inr (inr (inr (inr (inr (inr (inl is)))))))) = let m = says_one (codes "metafail") _ text said is in says_word_call pass moment text (codes "metafail") m.0 (on_pass pass said) refl refl m.1 (ap (option_map (on_pass pass)) m.2)
says_call pass moment text said (inr (inr (inr (inr (inr (inr (inr (inr (inl is))))))))) = let m = says_one (codes "log") _ text said is in says_word_call pass moment text (codes "log") m.0 (on_pass pass said) refl refl m.1 (ap (option_map (on_pass pass)) m.2)
says_call pass moment text said (inr (inr (inr (inr (inr (inr (inr (inr (inr (inl is)))))))))) = let m = says_one (codes "droplog") _ text said is in says_word_call pass moment text (codes "droplog") m.0 (on_pass pass said) refl refl m.1 (ap (option_map (on_pass pass)) m.2)
says_call pass moment text said (inr (inr (inr (inr (inr (inr (inr (inr (inr (inr (inl is))))))))))) = let m = says_one (codes "advance") _ text said is in says_word_call pass moment text (codes "advance") m.0 (on_pass pass said) refl refl m.1 (ap (option_map (on_pass pass)) m.2)
says_call pass moment text said (inr (inr (inr (inr (inr (inr (inr (inr (inr (inr (inr (inl is)))))))))))) = let m = says_cancel moment text said is in says_word_call pass moment text (codes "cancel") m.0 (on_pass pass said) refl refl m.1 (ap (option_map (on_pass pass)) m.2)
says_call pass moment text said (inr (inr (inr (inr (inr (inr (inr (inr (inr (inr (inr (inr (inl is))))))))))))) = let m = says_one (codes "delete") _ text said is in says_word_call pass moment text (codes "delete") m.0 (on_pass pass said) refl refl m.1 (ap (option_map (on_pass pass)) m.2)
says_call pass moment text said (inr (inr (inr (inr (inr (inr (inr (inr (inr (inr (inr (inr (inr (inl is)))))))))))))) = let m = says_one (codes "status") _ text said is in says_word_call pass moment text (codes "status") m.0 (on_pass pass said) refl refl m.1 (ap (option_map (on_pass pass)) m.2)
says_call pass moment text said (inr (inr (inr (inr (inr (inr (inr (inr (inr (inr (inr (inr (inr (inr is)))))))))))))) = let m = says_list text said is in says_word_call pass moment text (codes "list") m.0 (on_pass pass said) refl refl m.1 (ap (option_map (on_pass pass)) m.2)

says_spoken : (pass moment : ℕ) (text : List ℕ) (said : Said) → Spoken pass moment text said → call_of pass moment text ≡ Some said
says_spoken pass moment text (Sets limits) is = absurd is
says_spoken pass moment text (Calls said) is = says_call pass moment text said.1 is.1 ∙ ap (λ p. Some (Calls (p, said.1))) (sym is.0)
says_spoken pass moment text (Refuses fault) is = says_command pass moment text is.json (Err fault) is.words is.fails

-- ---- the limits

-- what six words say of the limits
record AreLimits (cache rows triggers files period opened : List ℕ) (limits : Bounds) : Type 0 where
  bytes : IsNumber cache limits.cache
  deliveries : IsNumber rows limits.rows
  commands : IsNumber triggers limits.triggers
  logs : IsNumber files limits.files
  pause : IsNumber period limits.period
  answers : IsNumber opened limits.opened
  ranged : AreInRange limits

bounds_say : (cache rows triggers files period opened : List ℕ) (limits : Bounds) → bounds_of cache rows triggers files period opened ≡ Some limits → AreLimits cache rows triggers files period opened limits
unfolding bounds_of
bounds_say cache rows triggers files period opened limits is =
    let bytes = found_first (number_between 0 1073741824 cache) _ limits is in
    let deliveries = found_first (number_between 1 100000 rows) _ limits bytes.2 in
    let commands = found_first (number_between 1 10000 triggers) _ limits deliveries.2 in
    let logs = found_first (number_between 1 64 files) _ limits commands.2 in
    let pause = found_first (number_between 0 86400000 period) _ limits logs.2 in
    let answers = found_first (number_between 1 (2 ^ 62) opened) _ limits pause.2 in
    let one : Bounds = record { cache = bytes.0; rows = deliveries.0; triggers = commands.0; files = logs.0; period = pause.0; opened = answers.0 } in
    let same : one ≡ limits = same_some answers.2 in
    let n1 = between_says 0 1073741824 cache bytes.0 bytes.1 in
    let n2 = between_says 1 100000 rows deliveries.0 deliveries.1 in
    let n3 = between_says 1 10000 triggers commands.0 commands.1 in
    let n4 = between_says 1 64 files logs.0 logs.1 in
    let n5 = between_says 0 86400000 period pause.0 pause.1 in
    let n6 = between_says 1 (2 ^ 62) opened answers.0 answers.1 in
    subst (AreLimits cache rows triggers files period opened) same (record {
      bytes = n1.0;
      deliveries = n2.0;
      commands = n3.0;
      logs = n4.0;
      pause = n5.0;
      answers = n6.0;
      ranged = record { cache = n1.2; rows = (n2.1, n2.2); triggers = (n3.1, n3.2); files = (n4.1, n4.2); period = n5.2; opened = (n6.1, n6.2) };
    })

say_bounds : (cache rows triggers files period opened : List ℕ) (limits : Bounds) → AreLimits cache rows triggers files period opened limits → bounds_of cache rows triggers files period opened ≡ Some limits
unfolding bounds_of
say_bounds cache rows triggers files period opened limits is =
    let r = is.ranged in
    found_then (number_between 0 1073741824 cache) _ limits.cache _ (says_between 0 1073741824 cache limits.cache is.bytes (omega arith) r.cache)
    (found_then (number_between 1 100000 rows) _ limits.rows _ (says_between 1 100000 rows limits.rows is.deliveries r.rows.0 r.rows.1)
    (found_then (number_between 1 10000 triggers) _ limits.triggers _ (says_between 1 10000 triggers limits.triggers is.commands r.triggers.0 r.triggers.1)
    (found_then (number_between 1 64 files) _ limits.files _ (says_between 1 64 files limits.files is.logs r.files.0 r.files.1)
    (found_then (number_between 0 86400000 period) _ limits.period _ (says_between 0 86400000 period limits.period is.pause (omega arith) r.period)
    (found_then (number_between 1 (2 ^ 62) opened) _ limits.opened _ (says_between 1 (2 ^ 62) opened limits.opened is.answers r.opened.0 r.opened.1)
    refl)))))

limits_say : (line word behind : List ℕ) (limits : Bounds) → parts_at SPACE line ≡ Some (word, behind) → bytes_eq word (codes "limits") ≡ true → limits_of behind ≡ Some limits → SaysLimits line limits
unfolding limits_of
limits_say line word behind limits cut same is =
    let first = first_is line word behind (codes "limits") cut same in
    let cache = found_first (parts_at SPACE behind) _ limits is in
    let rows = found_first (parts_at SPACE cache.0.1) _ limits cache.2 in
    let triggers = found_first (parts_at SPACE rows.0.1) _ limits rows.2 in
    let files = found_first (parts_at SPACE triggers.0.1) _ limits triggers.2 in
    let period = found_first (parts_at SPACE files.0.1) _ limits files.2 in
    let all = bounds_say cache.0.0 rows.0.0 triggers.0.0 files.0.0 period.0.0 period.0.1 limits period.2 in
    let w1 = word_says behind cache.0.0 cache.0.1 cache.1 in
    let w2 = word_says cache.0.1 rows.0.0 rows.0.1 rows.1 in
    let w3 = word_says rows.0.1 triggers.0.0 triggers.0.1 triggers.1 in
    let w4 = word_says triggers.0.1 files.0.0 files.0.1 files.1 in
    let w5 = word_says files.0.1 period.0.0 period.0.1 period.1 in
    record {
      cache = cache.0.0;
      rows = rows.0.0;
      triggers = triggers.0.0;
      files = files.0.0;
      period = period.0.0;
      opened = period.0.1;
      words = (behind, first.0, first.1, (cache.0.1, w1.0, w1.1, (rows.0.1, w2.0, w2.1, (triggers.0.1, w3.0, w3.1, (files.0.1, w4.0, w4.1, (period.0.1, w5.0, w5.1, refl))))));
      bytes = all.bytes;
      deliveries = all.deliveries;
      commands = all.commands;
      logs = all.logs;
      pause = all.pause;
      answers = all.answers;
      ranged = all.ranged;
    }

say_limits : (line : List ℕ) (limits : Bounds) → SaysLimits line limits → (behind : List ℕ) × (line ≡ codes "limits" ++ SPACE ∷ behind) × (limits_of behind ≡ Some limits)
unfolding limits_of
say_limits line limits is =
    let first = is.words in
    let w1 = first.3 in
    let w2 = w1.3 in
    let w3 = w2.3 in
    let w4 = w3.3 in
    let w5 = w4.3 in (
      first.0,
      first.1,
      found_then (parts_at SPACE first.0) _ (is.cache, w1.0) _ (says_word first.0 is.cache w1.0 w1.1 w1.2)
          (found_then (parts_at SPACE w1.0) _ (is.rows, w2.0) _ (says_word w1.0 is.rows w2.0 w2.1 w2.2)
          (found_then (parts_at SPACE w2.0) _ (is.triggers, w3.0) _ (says_word w2.0 is.triggers w3.0 w3.1 w3.2)
          (found_then (parts_at SPACE w3.0) _ (is.files, w4.0) _ (says_word w3.0 is.files w4.0 w4.1 w4.2)
          (found_then (parts_at SPACE w4.0) _ (is.period, w5.0) _ (says_word w4.0 is.period w5.0 w5.1 w5.2)
          (ap (bounds_of is.cache is.rows is.triggers is.files is.period) w5.3
          ∙ say_bounds is.cache is.rows is.triggers is.files is.period is.opened limits (record { bytes = is.bytes; deliveries = is.deliveries; commands = is.commands; logs = is.logs; pause = is.pause; answers = is.answers; ranged = is.ranged })))))),
    )

-- ---- a whole line

scripted_spoken : (line pass rest moment text : List ℕ) (number at : ℕ) (said : Said) → line ≡ pass ++ SPACE ∷ rest → NoSpace pass → rest ≡ moment ++ SPACE ∷ text → NoSpace moment → IsNumber pass number → number < 2 ^ 32 → IsNumber moment at → Spoken number at text said → Says line said
scripted_spoken line pass rest moment text number at (Sets limits) p1 p2 m1 m2 numbered small timed is = absurd is
scripted_spoken line pass rest moment text number at (Calls said) p1 p2 m1 m2 numbered small timed is = record {
  pass = pass;
  moment = moment;
  call = text;
  at = at;
  words = (rest, p1, p2, (text, m1, m2, refl));
  numbered = subst (IsNumber pass) (sym is.0) numbered;
  small = subst (λ n. n < 2 ^ 32) (sym is.0) small;
  timed = timed;
  called = is.1;
}
scripted_spoken line pass rest moment text number at (Refuses fault) p1 p2 m1 m2 numbered small timed is = record {
  pass = pass;
  moment = moment;
  command = text;
  number = number;
  at = at;
  words = (rest, p1, p2, (text, m1, m2, refl));
  numbered = numbered;
  small = small;
  timed = timed;
  refused = is;
}

scripted_says : (line : List ℕ) (parts : List ℕ × List ℕ) (said : Said) → parts_at SPACE line ≡ Some parts → scripted_of parts ≡ Some said → Says line said
unfolding scripted_of
scripted_says line parts said cut is =
    let number = found_first (number_below (2 ^ 32) parts.0) _ said is in
    let moment = found_first (parts_at SPACE parts.1) _ said number.2 in
    let at = found_first (number_of moment.0.0) _ said moment.2 in
    let p = word_says line parts.0 parts.1 cut in
    let m = word_says parts.1 moment.0.0 moment.0.1 moment.1 in
    let n = below_says (2 ^ 32) parts.0 number.0 number.1 in
    scripted_spoken line parts.0 parts.1 moment.0.0 moment.0.1 number.0 at.0 said p.0 p.1 m.0 m.1 n.0 n.1 (number_says moment.0.0 at.0 at.1) (call_says number.0 at.0 moment.0.1 said at.2)

pub line_says : (line : List ℕ) (said : Said) → line_of line ≡ Some said → Says line said
unfolding line_of
line_says line said is =
    let first = found_first (parts_at SPACE line) _ said is in
    elim (cases_Bool (bytes_eq first.0.0 (codes "limits"))) [
      | inl limits ↦
          let sets = found_map Sets (limits_of first.0.1) said (sym (cond-true _ _ _ limits) ∙ first.2) in
          subst (Says line) sets.2 (limits_say line first.0.0 first.0.1 sets.0 first.1 limits sets.1)
      | inr other ↦ scripted_says line first.0 said first.1 (sym (cond-false _ _ _ other) ∙ first.2)
    ]

-- a number is no `limits`
no_limits : (text : List ℕ) (n : ℕ) → IsNumber text n → bytes_eq text (codes "limits") ≡ false
no_limits text n is = elim (cases_Bool (bytes_eq text (codes "limits"))) [
  | inl same ↦ absurd (no_some (ap number_of (sym ((bytes_eq-Decides text (codes "limits")).0 same)) ∙ says_number text n is))
  | inr other ↦ other
]

-- PASS MOMENT and what the pass says
spoken_line : (line pass moment text : List ℕ) (number at : ℕ) (said : Said) → IsWords (pass ∷ moment ∷ []) text line → IsNumber pass number → number < 2 ^ 32 → IsNumber moment at → Spoken number at text said → line_of line ≡ Some said
unfolding line_of scripted_of
spoken_line line pass moment text number at said p numbered small timed is =
    let m = p.3 in
    found_then (parts_at SPACE line) _ (pass, p.0) _ (says_word line pass p.0 p.1 p.2)
    (cond-false _ _ _ (no_limits pass number numbered)
    ∙ found_then (number_below (2 ^ 32) pass) _ number _ (says_below (2 ^ 32) pass number numbered small)
    (found_then (parts_at SPACE p.0) _ (moment, m.0) _ (says_word p.0 moment m.0 m.1 m.2)
    (found_then (number_of moment) _ at _ (says_number moment at timed)
    (ap (call_of number at) m.3 ∙ says_spoken number at text said is))))

pub says_line : (line : List ℕ) (said : Said) → Says line said → line_of line ≡ Some said
unfolding line_of
says_line line (Sets limits) is =
    let m = say_limits line limits is in
    ap line_of m.1 ∙ found_then (parts_at SPACE (codes "limits" ++ SPACE ∷ m.0)) _ (codes "limits", m.0) _ (begins_cut SPACE (codes "limits") m.0 refl) (ap (option_map Sets) m.2)
says_line line (Calls said) is = spoken_line line is.pass is.moment is.call said.0 is.at (Calls said) is.words is.numbered is.small is.timed (refl, is.called)
says_line line (Refuses fault) is = spoken_line line is.pass is.moment is.command is.number is.at (Refuses fault) is.words is.numbered is.small is.timed is.refused

-- what is read of a line is what it says, and a line says one thing at most
pub one_saying : (line : List ℕ) (said other : Said) → Says line said → Says line other → said ≡ other
one_saying line said other one two = same_some (sym (says_line line said one) ∙ says_line line other two)

pub read_value : (read : Result ScriptLine ScriptFault) (said : Option Said) → Reads read said → Gives said_of read said
read_value (Ok line) said is = is.0
read_value (Err script_fault.NotALine) said is = is
read_value (Err script_fault.Memory) said is = tt

pub read_says : (read : Result ScriptLine ScriptFault) (line : List ℕ) → Reads read (line_of line) → IfOk read (λ found. Says line (said_of found))
read_says (Ok found) line is = line_says line (said_of found) is.0
read_says (Err fault) line is = tt

pub read_nothing : (read : Result ScriptLine ScriptFault) (line : List ℕ) → Reads read (line_of line) → read ≡ Err script_fault.NotALine → (said : Said) → Says line said → ⊥
read_nothing read line is none said says =
    no_some (sym (subst (λ r. Reads r (line_of line)) none is) ∙ says_line line said says)

pub read_tells : (read : Result ScriptLine ScriptFault) (said : Option Said) → Reads read said → IfOk read TellsNoMemory
read_tells (Ok found) said is = is.1
read_tells (Err fault) said is = tt
