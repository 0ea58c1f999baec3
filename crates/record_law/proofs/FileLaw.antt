-- The log files have the rows that were written, each once, and are read until they are dropped.
use Rattle.std.proofs.Common.{true, Bool, ◌≡◌, ◌↔◌, ℕ, ◌+◌, ◌<◌, ◌≤◌, ◌==◌, suc, zero, false, not, ◌||◌, cond, IsTrue, List, [], ◌∷◌, ◌++◌, All, length, map, append_assoc, refl, sym, ap, ◌∙◌, subst, inl, inr, None, Some, Option, arith, get_or}
use Rattle.std.specs.List.{AllPairs, Contains, filter, flat_map, list_any, slice_get}
use Rattle.std.proofs.lemmas.Bool.{both_ways, cases_Bool, cond-false, cond-true, eq-eqb, eqb-true, ne_eqb, not_from_false, not_from_true, or_cases, or_left, or_right}
use Rattle.std.proofs.lemmas.List.{append-nil, length-map, length_push, map-append}
use Rattle.std.proofs.lemmas.List.Concat.{flat_map-append}
use Rattle.std.proofs.lemmas.List.Elements.{All-append, All-contains, All-contains_itself, All-filter, All-map, All-nil, All-push, All-weaker, Contains-append_left, Contains-push, filter-append}
use Rattle.std.proofs.lemmas.List.Folds.{flat_map-map}
use Rattle.std.proofs.lemmas.List.Quantifiers.{all_pairs_push}
use Rattle.std.proofs.lemmas.Option.{none-some, same_Some, slice_get-map}
use Rattle.std.proofs.lemmas.Simd.{map-map}
use Rattle.delivery_law.proofs.Lists.{found_is}
use Rattle.delivery_law.proofs.LogLaw.{got_push, row_of_each, row_of_one, rows_apart}
use Rattle.delivery_law.proofs.Places.{answered_push, from_right, length_push as entries_push, longer, within}
use Rattle.history.proofs.Cases.{either, opening_cases}
use Rattle.history.proofs.Numbers.{entries_are}
use Rattle.history.proofs.Words.{world_none, world_push}
use Rattle.history.specs.After.{after, after_reply, cut_file, position}
use Rattle.history.specs.Event.{Entry, Event, History, Cut, DropLog, Finish, ListLogs, LogFile}
use Rattle.history.specs.History.{AnsweredAt, reply_to, world_of}
use Rattle.history.specs.Reply.{cut_reply, drop_reply, file_of, log_reply, opening, reply_in}
use Rattle.history.specs.World.{Filed, Made, Recorded, World, is_open}
use Rattle.history.specs.declared.reply.Reply.{Reply}
use Rattle.history.specs.declared.reply.Reply.TheVariants as reply
use Rattle.record_law.specs.LogFiles.{CutFile, Follows, KeepsRecord, WasCut, WasDropped, as_kept, dropping, reading, text_of, undropped}
use Rattle.record_law.proofs.Changes.{Cuts, Drops, Papers, Writes, change, drops, papers_after, papers_are, papers_of}
use Rattle.record_law.proofs.Lists.{all_places, contains_got, contains_map, got_map, none_passes, not_none, pairs_map}

-- ---- files that are dropped

-- the file of this number is dropped
abbrev marked : ℕ → CutFile → CutFile
marked number file = record file { dropped = file.dropped || file.number == number }

-- a drop takes the file of this number away, and no other
kept_marked : (number : ℕ) (files : List CutFile)
    → filter (λ file. not (file.number == number)) (map as_kept (undropped files)) ≡ map as_kept (undropped (map (marked number) files))
kept_marked number [] = refl
kept_marked number (x ∷ xs) = elim (cases_Bool x.dropped) [
  | inl gone ↦
      let old : undropped (x ∷ xs) ≡ undropped xs = cond-false (not x.dropped) (x ∷ undropped xs) (undropped xs) (not_from_true x.dropped gone) in
      let new : undropped (map (marked number) (x ∷ xs)) ≡ undropped (map (marked number) xs) =
      cond-false (not (x.dropped || x.number == number)) (marked number x ∷ undropped (map (marked number) xs)) (undropped (map (marked number) xs)) (not_from_true (x.dropped || x.number == number) (or_left x.dropped (x.number == number) gone)) in
      ap (λ k. filter (λ (file : Filed). not (file.number == number)) (map as_kept k)) old ∙ kept_marked number xs ∙ ap (λ k. map as_kept k) (sym new)
  | inr stays ↦
      let old : undropped (x ∷ xs) ≡ x ∷ undropped xs = cond-true (not x.dropped) (x ∷ undropped xs) (undropped xs) (not_from_false x.dropped stays) in
      let test : (x.dropped || x.number == number) ≡ (x.number == number) = ap (λ b. b || x.number == number) stays in
      let rest : List Filed = filter (λ (file : Filed). not (file.number == number)) (map as_kept (undropped xs)) in
      ap (λ k. filter (λ (file : Filed). not (file.number == number)) (map as_kept k)) old ∙ elim (cases_Bool (x.number == number)) [
        | inl this ↦
            cond-false (not (x.number == number)) (as_kept x ∷ rest) rest (not_from_true (x.number == number) this) ∙ kept_marked number xs
            ∙ ap (λ k. map as_kept k) (sym (cond-false (not (x.dropped || x.number == number)) (marked number x ∷ undropped (map (marked number) xs)) (undropped (map (marked number) xs)) (not_from_true (x.dropped || x.number == number) (test ∙ this))))
        | inr other ↦
            cond-true (not (x.number == number)) (as_kept x ∷ rest) rest (not_from_false (x.number == number) other) ∙ ap (λ k. as_kept x ∷ k) (kept_marked number xs)
            ∙ ap (λ k. map as_kept k) (sym (cond-true (not (x.dropped || x.number == number)) (marked number x ∷ undropped (map (marked number) xs)) (undropped (map (marked number) xs)) (not_from_false (x.dropped || x.number == number) (test ∙ other))))
      ]
]

-- a file that is kept is one of those that were cut
kept_one : (files : List CutFile) (number : ℕ) (found : Filed) → file_of number (map as_kept (undropped files)) ≡ Some found → (file : CutFile) × Contains files file × (file.number ≡ number)
kept_one files number found is =
    let each : All (λ (k : Filed). (file : CutFile) × Contains files file × (file.number ≡ k.number)) (map as_kept (undropped files)) =
    All-map (λ (k : Filed). (file : CutFile) × Contains files file × (file.number ≡ k.number)) as_kept (undropped files)
    (All-weaker (Contains files) (λ (one : CutFile). (file : CutFile) × Contains files file × (file.number ≡ (as_kept one).number)) (λ one has. (one, has, refl)) (undropped files)
    (All-filter (λ (file : CutFile). not file.dropped) (Contains files) files (All-contains_itself files))) in
    let one = found_is (λ (k : Filed). (file : CutFile) × Contains files file × (file.number ≡ k.number)) (λ (k : Filed). k.number == number) (map as_kept (undropped files)) found each is in
    (one.0.0, one.0.1, one.0.2 ∙ eqb-true found.number number one.1)

-- none of these has the number
none_of : (number : ℕ) (files : List CutFile) → All (λ file. file.number ≡ number → ⊥) files → file_of number (map as_kept (undropped files)) ≡ None
none_of number files others = none_passes (λ (k : Filed). k.number == number) (map as_kept (undropped files))
    (All-map (λ (k : Filed). (k.number == number) ≡ false) as_kept (undropped files)
    (All-filter (λ (file : CutFile). not file.dropped) (λ (file : CutFile). (file.number == number) ≡ false) files
    (All-weaker (λ (file : CutFile). file.number ≡ number → ⊥) (λ (file : CutFile). (file.number == number) ≡ false) (λ file other. ne_eqb file.number number other) files others)))

-- what is found under the number of a file
abbrev kept_as : CutFile → Option Filed
kept_as file = cond file.dropped None (Some (as_kept file))

-- they have these numbers, one after the other
abbrev AreNumbered : ℕ → List CutFile → Type 0
AreNumbered from files = (place : ℕ) (file : CutFile) → slice_get files place ≡ Some file → file.number ≡ from + place

found_numbered : (from : ℕ) (files : List CutFile) → AreNumbered from files → (k : ℕ) (file : CutFile) → slice_get files k ≡ Some file
    → file_of file.number (map as_kept (undropped files)) ≡ kept_as file
found_numbered from [] numbered k file is = absurd (none-some file is)
found_numbered from (x ∷ xs) numbered zero file is = subst (λ (f : CutFile). file_of f.number (map as_kept (undropped (x ∷ xs))) ≡ kept_as f) (same_Some x file is) (elim (cases_Bool x.dropped) [
  | inl gone ↦
      let later : All (λ (f : CutFile). f.number ≡ x.number → ⊥) xs = all_places (λ (f : CutFile). f.number ≡ x.number → ⊥) xs (λ k f at same. (let first = numbered 0 x refl in let other = numbered (suc k) f at in omega (arith, first, other, same))) in
      ap (λ k. file_of x.number (map as_kept k)) (cond-false (not x.dropped) (x ∷ undropped xs) (undropped xs) (not_from_true x.dropped gone)) ∙ none_of x.number xs later
      ∙ sym (cond-true x.dropped None (Some (as_kept x)) gone)
  | inr stays ↦
      ap (λ k. file_of x.number (map as_kept k)) (cond-true (not x.dropped) (x ∷ undropped xs) (undropped xs) (not_from_false x.dropped stays))
      ∙ cond-true (x.number == x.number) (Some (as_kept x)) (file_of x.number (map as_kept (undropped xs))) (eq-eqb x.number x.number refl)
      ∙ sym (cond-false x.dropped None (Some (as_kept x)) stays)
])
found_numbered from (x ∷ xs) numbered (suc k) file is =
    let rest : file_of file.number (map as_kept (undropped xs)) ≡ kept_as file = found_numbered (from + 1) xs (λ place f at. (let other = numbered (suc place) f at in omega (arith, other))) k file is in
    let apart : (x.number == file.number) ≡ false = ne_eqb x.number file.number (λ same. (let first = numbered 0 x refl in let other = numbered (suc k) file is in omega (arith, first, other, same))) in
    elim (cases_Bool x.dropped) [
      | inl gone ↦ ap (λ k. file_of file.number (map as_kept k)) (cond-false (not x.dropped) (x ∷ undropped xs) (undropped xs) (not_from_true x.dropped gone)) ∙ rest
      | inr stays ↦
          ap (λ k. file_of file.number (map as_kept k)) (cond-true (not x.dropped) (x ∷ undropped xs) (undropped xs) (not_from_false x.dropped stays))
          ∙ cond-false (x.number == file.number) (Some (as_kept x)) (file_of file.number (map as_kept (undropped xs))) apart ∙ rest
    ]

-- ---- over histories

-- a Cut made the file
record WasMade (made : Made) (h : History) (file : CutFile) : Type 0 where
  pass : ℕ
  answered : AnsweredAt made h file.at (pass, Cut file.moment) (reply.File file.number)
  written : All (λ one. one.at < file.at) file.rows
  some : file.rows ≡ [] → ⊥
  dropped : IsTrue file.dropped ↔ WasDropped made h file.number file.at

-- what is said of the files, and of what is unfiled
record Ledger (made : Made) (h : History) (p : Papers) : Type 0 where
  files : List CutFile
  counted : p.filed ≡ length files
  numbered : AreNumbered 1 files
  cut : All (WasMade made h) files
  in_order : AllPairs Follows files
  every : (at pass moment number : ℕ) → AnsweredAt made h at (pass, Cut moment) (reply.File number) → (file : CutFile) × Contains files file × (file.at ≡ at)
  dropped : (at pass number : ℕ) → AnsweredAt made h at (pass, DropLog number) reply.Dropped → (file : CutFile) × Contains files file × (file.number ≡ number) × (file.at < at)
  whole : p.rows ≡ flat_map (λ file. file.rows) files ++ p.unfiled
  unfiled : All (λ file. All (λ one. file.at < one.at) p.unfiled) files
  so_far : All (λ one. one.at ≤ length h) p.unfiled
  kept : p.files ≡ map as_kept (undropped files)

abbrev cut_moment : Event → ℕ
cut_moment (Cut moment) = moment
cut_moment e = 0

abbrev drop_number : Event → ℕ
drop_number (DropLog number) = number
drop_number e = 0

module _ (made : Made) (h : History) (e : Entry) (entries : (world_of made h).entries ≡ length h) (law : Ledger made h (papers_of (world_of made h))) where
  abbrev w : World
  w = world_of made h

  abbrev h' : History
  h' = h ++ e ∷ []

  abbrev r : Reply
  r = reply_to made h e

  dropped_longer : (number after : ℕ) → WasDropped made h number after → WasDropped made h' number after
  dropped_longer number after was = record { at = was.at; pass = was.pass; later = was.later; answered = longer e was.answered }

  -- where the entry drops nothing
  undropped_here : drops r ≡ false → (number after : ℕ) → WasDropped made h' number after → WasDropped made h number after
  undropped_here none number after was = elim (answered_push made h e was.at (was.pass, DropLog number) reply.Dropped was.answered) [
    | inl old ↦ record { at = was.at; pass = was.pass; later = was.later; answered = old }
    | inr last ↦ absurd (both_ways (drops r) none (ap drops last.2))
  ]

  made_longer : drops r ≡ false → (file : CutFile) → WasMade made h file → WasMade made h' file
  made_longer none file was = record {
    pass = was.pass;
    answered = longer e was.answered;
    written = was.written;
    some = was.some;
    dropped = (
      λ is. dropped_longer file.number file.at (was.dropped.0 is),
      λ now. was.dropped.1 (undropped_here none file.number file.at now),
    );
  }

  dropped_old : drops r ≡ false → (at pass number : ℕ) → AnsweredAt made h' at (pass, DropLog number) reply.Dropped → (file : CutFile) × Contains law.files file × (file.number ≡ number) × (file.at < at)
  dropped_old none at pass number answered = elim (answered_push made h e at (pass, DropLog number) reply.Dropped answered) [
    | inl old ↦ law.dropped at pass number old
    | inr last ↦ absurd (both_ways (drops r) none (ap drops last.2))
  ]

  every_old : cut_file r ≡ None → (at pass moment number : ℕ) → AnsweredAt made h' at (pass, Cut moment) (reply.File number) → (file : CutFile) × Contains law.files file × (file.at ≡ at)
  every_old none at pass moment number answered = elim (answered_push made h e at (pass, Cut moment) (reply.File number) answered) [
    | inl old ↦ law.every at pass moment number old
    | inr last ↦ absurd (none-some number (sym none ∙ ap cut_file last.2))
  ]

  -- each file was cut before this entry
  before_here : All (λ (file : CutFile). file.at ≤ length h) law.files
  before_here = All-weaker (WasMade made h) (λ (file : CutFile). file.at ≤ length h) (λ file was. within was.answered) law.files law.cut

  writes : (new : Papers) → Writes w r new → Ledger made h' new
  writes new x = subst (Ledger made h') (sym x.more) (record {
    files = law.files;
    counted = law.counted;
    numbered = law.numbered;
    cut = All-weaker (WasMade made h) (WasMade made h') (made_longer x.no_drop) law.files law.cut;
    in_order = law.in_order;
    every = every_old x.no_file;
    dropped = dropped_old x.no_drop;
    whole = ap (λ k. k ++ x.ones) law.whole ∙ append_assoc (flat_map (λ (file : CutFile). file.rows) law.files) w.delivering.unfiled x.ones;
    unfiled = λ k d below. All-append (λ (one : Recorded). (get_or law.files k d).at < one.at) w.delivering.unfiled x.ones (law.unfiled k d below)
        (All-weaker (λ (one : Recorded). one.at ≡ position w) (λ (one : Recorded). (get_or law.files k d).at < one.at) (λ one is. (let low = before_here k d below in omega (arith, is, low, entries))) x.ones x.here);
    so_far = All-append (λ (one : Recorded). one.at ≤ length h') w.delivering.unfiled x.ones
        (All-weaker (λ (one : Recorded). one.at ≤ length h) (λ (one : Recorded). one.at ≤ length h') (λ one low. (let long = entries_push h e in omega (arith, low, long))) w.delivering.unfiled law.so_far)
        (All-weaker (λ (one : Recorded). one.at ≡ position w) (λ (one : Recorded). one.at ≤ length h') (λ one is. (let long = entries_push h e in omega (arith, is, long, entries))) x.ones x.here);
    kept = law.kept;
  })

  module _ (new : Papers) (x : Cuts w e r new) where
    abbrev the_file : CutFile
    the_file = record { number = w.counts.filed + 1; at = length h + 1; moment = x.moment; rows = w.delivering.unfiled; dropped = false }

    no_drop : drops r ≡ false
    no_drop = ap drops x.answer

    new_made : WasMade made h' the_file
    new_made = record {
      pass = e.0;
      answered = record {
        before = h;
        since = [];
        whole = ap (λ (v : Event). h ++ (e.0, v) ∷ []) x.event;
        place = refl;
        answered = ap (λ (v : Event). reply_to made h (e.0, v)) (sym x.event) ∙ x.answer;
      };
      written = All-weaker (λ (one : Recorded). one.at ≤ length h) (λ (one : Recorded). one.at < length h + 1) (λ one low. omega (arith, low)) w.delivering.unfiled law.so_far;
      some = x.some;
      dropped = (
        λ is. absurd (both_ways false refl is),
        λ was. absurd (let low = within was.answered in let later = was.later in let long = entries_push h e in omega (arith, low, later, long)),
      );
    }

    new_every : (at pass moment number : ℕ) → AnsweredAt made h' at (pass, Cut moment) (reply.File number) → (file : CutFile) × Contains (law.files ++ the_file ∷ []) file × (file.at ≡ at)
    new_every at pass moment number answered = elim (answered_push made h e at (pass, Cut moment) (reply.File number) answered) [
      | inl old ↦ let has = law.every at pass moment number old in (has.0, Contains-append_left law.files (the_file ∷ []) has.0 has.1, has.2)
      | inr last ↦ (the_file, Contains-push law.files the_file, sym last.0)
    ]

    new_dropped : (at pass number : ℕ) → AnsweredAt made h' at (pass, DropLog number) reply.Dropped → (file : CutFile) × Contains (law.files ++ the_file ∷ []) file × (file.number ≡ number) × (file.at < at)
    new_dropped at pass number answered = let has = dropped_old no_drop at pass number answered in (has.0, Contains-append_left law.files (the_file ∷ []) has.0 has.1, has.2, has.3)

    cuts : Ledger made h' new
    cuts = subst (Ledger made h') (sym x.more) (record {
      files = law.files ++ the_file ∷ [];
      counted = ap (λ n. n + 1) law.counted ∙ sym (length_push law.files the_file);
      numbered = λ place file is. elim (got_push law.files the_file place file is) [
        | inl old ↦ law.numbered place file old
        | inr last ↦ sym (ap (λ (f : CutFile). f.number) last.1) ∙ (let counted = law.counted in let place_is = last.0 in omega (arith, counted, place_is))
      ];
      cut = All-push (WasMade made h') law.files the_file (All-weaker (WasMade made h) (WasMade made h') (made_longer no_drop) law.files law.cut) new_made;
      in_order = all_pairs_push Follows law.files the_file law.in_order (λ k d below. record {
        later = (let low = before_here k d below in omega (arith, low));
        since = law.unfiled k d below;
      });
      every = new_every;
      dropped = new_dropped;
      whole = law.whole ∙ ap (λ k. flat_map (λ (file : CutFile). file.rows) law.files ++ k) (sym (append-nil w.delivering.unfiled))
          ∙ sym (flat_map-append (λ (file : CutFile). file.rows) law.files (the_file ∷ []))
          ∙ sym (append-nil (flat_map (λ (file : CutFile). file.rows) (law.files ++ the_file ∷ [])));
      unfiled = λ k d below. All-nil _;
      so_far = All-nil _;
      kept = ap (λ k. k ++ as_kept the_file ∷ []) law.kept ∙ sym (map-append as_kept (undropped law.files) (the_file ∷ []))
          ∙ ap (λ k. map as_kept k) (sym (filter-append (λ (file : CutFile). not file.dropped) law.files (the_file ∷ [])));
    })

  module _ (new : Papers) (x : Drops w e r new) where
    abbrev files' : List CutFile
    files' = map (marked x.number) law.files

    -- the file that is dropped
    this_one : (file : CutFile) × Contains law.files file × (file.number ≡ x.number)
    this_one = kept_one law.files x.number x.file (ap (file_of x.number) (sym law.kept) ∙ x.found)

    no_file : cut_file r ≡ None
    no_file = ap cut_file x.answer

    dropped_now : (after : ℕ) → after ≤ length h → WasDropped made h' x.number after
    dropped_now after low = record {
      at = length h + 1;
      pass = e.0;
      later = omega (arith, low);
      answered = record {
        before = h;
        since = [];
        whole = ap (λ (v : Event). h ++ (e.0, v) ∷ []) x.event;
        place = refl;
        answered = ap (λ (v : Event). reply_to made h (e.0, v)) (sym x.event) ∙ x.answer;
      };
    }

    made_marked : (file : CutFile) → WasMade made h file → WasMade made h' (marked x.number file)
    made_marked file was = record {
      pass = was.pass;
      answered = longer e was.answered;
      written = was.written;
      some = was.some;
      dropped = (
        λ is. elim (or_cases file.dropped (file.number == x.number) is) [
          | inl before ↦ dropped_longer file.number file.at (was.dropped.0 before)
          | inr now ↦ subst (λ n. WasDropped made h' n file.at) (sym (eqb-true file.number x.number now)) (dropped_now file.at (within was.answered))
        ],
        λ now. elim (answered_push made h e now.at (now.pass, DropLog file.number) reply.Dropped now.answered) [
          | inl old ↦ or_left file.dropped (file.number == x.number) (was.dropped.1 (record { at = now.at; pass = now.pass; later = now.later; answered = old }))
          | inr last ↦ or_right file.dropped (file.number == x.number) (eq-eqb file.number x.number (ap (λ (n : Entry). drop_number n.1) last.1 ∙ ap drop_number x.event))
        ],
      );
    }

    has_marked : (file : CutFile) → Contains law.files file → Contains files' (marked x.number file)
    has_marked file has = contains_map (marked x.number) law.files file has

    marked_every : (at pass moment number : ℕ) → AnsweredAt made h' at (pass, Cut moment) (reply.File number) → (file : CutFile) × Contains files' file × (file.at ≡ at)
    marked_every at pass moment number answered = let has = every_old no_file at pass moment number answered in (marked x.number has.0, has_marked has.0 has.1, has.2)

    marked_dropped : (at pass number : ℕ) → AnsweredAt made h' at (pass, DropLog number) reply.Dropped → (file : CutFile) × Contains files' file × (file.number ≡ number) × (file.at < at)
    marked_dropped at pass number answered = elim (answered_push made h e at (pass, DropLog number) reply.Dropped answered) [
      | inl old ↦ let has = law.dropped at pass number old in (marked x.number has.0, has_marked has.0 has.1, has.2, has.3)
      | inr last ↦
          let low = All-contains (λ (file : CutFile). file.at ≤ length h) law.files this_one.0 before_here this_one.1 in (
            marked x.number this_one.0,
            has_marked this_one.0 this_one.1,
            this_one.2 ∙ sym (ap (λ (n : Entry). drop_number n.1) last.1 ∙ ap drop_number x.event),
            (let place = last.0 in omega (arith, low, place)),
          )
    ]

    drop_one : Ledger made h' new
    drop_one = subst (Ledger made h') (sym x.more) (record {
      files = files';
      counted = law.counted ∙ sym (length-map law.files (marked x.number));
      numbered = λ place file is. got_map (marked x.number) (slice_get law.files place) file (file.number ≡ 1 + place) (sym (slice_get-map (marked x.number) law.files place) ∙ is)
          (λ old at same. ap (λ (f : CutFile). f.number) (sym same) ∙ law.numbered place old at);
      cut = All-map (WasMade made h') (marked x.number) law.files (All-weaker (WasMade made h) (λ file. WasMade made h' (marked x.number file)) made_marked law.files law.cut);
      in_order = pairs_map Follows (marked x.number) law.files (λ a b follows. record { later = follows.later; since = follows.since }) law.in_order;
      every = marked_every;
      dropped = marked_dropped;
      whole = law.whole ∙ ap (λ k. k ++ w.delivering.unfiled) (sym (flat_map-map (λ (file : CutFile). file.rows) (marked x.number) law.files));
      unfiled = All-map (λ (file : CutFile). All (λ one. file.at < one.at) w.delivering.unfiled) (marked x.number) law.files law.unfiled;
      so_far = All-weaker (λ (one : Recorded). one.at ≤ length h) (λ (one : Recorded). one.at ≤ length h') (λ one low. (let long = entries_push h e in omega (arith, low, long))) w.delivering.unfiled law.so_far;
      kept = ap (filter (λ (file : Filed). not (file.number == x.number))) law.kept ∙ kept_marked x.number law.files;
    })

  ledger_push : Ledger made h' (papers_of (world_of made h'))
  ledger_push = subst (λ v. Ledger made h' (papers_of v)) (sym (world_push made h e)) (subst (Ledger made h') (sym (papers_are w e)) (elim (change w e) [
    | inl x ↦ writes (papers_after w e r) x
    | inr more ↦ elim more [
      | inl x ↦ cuts (papers_after w e r) x
      | inr x ↦ drop_one (papers_after w e r) x
    ]
  ]))

record FileLaw (made : Made) (h : History) : Type 0 where
  entries : (world_of made h).entries ≡ length h
  made_is : (world_of made h).made ≡ made
  ledger : Ledger made h (papers_of (world_of made h))

made_stays : (w : World) (e : Entry) → (after w e).made ≡ w.made
unfolding after after_reply
made_stays w e = refl

law_push : (made : Made) (h : History) (e : Entry) → FileLaw made h → FileLaw made (h ++ e ∷ [])
law_push made h e law = record {
  entries = ap (λ (v : World). v.entries) (world_push made h e) ∙ entries_are (world_of made h) e ∙ ap (λ n. n + 1) law.entries ∙ sym (entries_push h e);
  made_is = ap (λ (v : World). v.made) (world_push made h e) ∙ made_stays (world_of made h) e ∙ law.made_is;
  ledger = ledger_push made h e law.entries law.ledger;
}

no_entry : (made : Made) (at : ℕ) (entry : Entry) (answer : Reply) → AnsweredAt made [] at entry answer → ⊥
no_entry made at entry answer a = let low = within a in let place = a.place in omega (arith, low, place)

law_none : (made : Made) → FileLaw made []
law_none made = record {
  entries = ap (λ (v : World). v.entries) (world_none made);
  made_is = ap (λ (v : World). v.made) (world_none made);
  ledger = subst (λ (v : World). Ledger made [] (papers_of v)) (sym (world_none made)) (record {
    files = [];
    counted = refl;
    numbered = λ place file is. absurd (none-some file is);
    cut = All-nil _;
    in_order = λ i j d order below. absurd (omega (arith, below));
    every = λ at pass moment number answered. absurd (no_entry made at _ _ answered);
    dropped = λ at pass number answered. absurd (no_entry made at _ _ answered);
    whole = refl;
    unfiled = All-nil _;
    so_far = All-nil _;
    kept = refl;
  });
}

file_law : (made : Made) (h : History) → FileLaw made h
file_law made = from_right (FileLaw made) (law_none made) (law_push made)

-- ---- what is read

log_answer : (w : World) (by number : ℕ) → reply_in w (by, LogFile number) ≡ log_reply w.made.heading number (file_of number w.controlling.files)
unfolding reply_in
log_answer w by number = refl

drop_answer : (w : World) (by number : ℕ) → reply_in w (by, DropLog number) ≡ drop_reply number (file_of number w.controlling.files)
unfolding reply_in
drop_answer w by number = refl

-- an open delivery that is finished has its row
finish_answer : (w : World) (pass delivery status total entity end : ℕ) → list_any (is_open delivery pass) w.delivering.deliveries ≡ true
    → reply_in w (pass, Finish delivery status total entity end) ≡ reply.Logged (w.counts.logged + 1)
unfolding reply_in
finish_answer w pass delivery status total entity end is = cond-true (list_any (is_open delivery pass) w.delivering.deliveries) (reply.Logged (w.counts.logged + 1)) (reply.NotOpen delivery) is

cut_answer : (w : World) (by moment : ℕ) → reply_in w (by, Cut moment) ≡ cut_reply w w.delivering.unfiled
unfolding reply_in
cut_answer w by moment = refl

abbrev is_nothing : Reply → Bool
is_nothing reply.NothingToCut = true
is_nothing r = false

-- nothing is cut exactly where there are no rows
cut_nothing : (w : World) (rows : List Recorded) → (cut_reply w rows ≡ reply.NothingToCut) ↔ (rows ≡ [])
cut_nothing w [] = (λ is. refl, λ is. refl)
cut_nothing w (row ∷ rows) =
    let some : is_nothing (cut_reply w (row ∷ rows)) ≡ false =
    either (λ r. is_nothing r ≡ false) (length w.controlling.files == w.made.limits.files) (reply.Full (length w.controlling.files)) (opening w (reply.File (w.counts.filed + 1))) refl
    (opening_cases w (λ r. is_nothing r ≡ false) (reply.File (w.counts.filed + 1)) (λ n. refl) refl) in
    (λ is. absurd (both_ways (is_nothing (cut_reply w (row ∷ rows))) some (ap is_nothing is)), λ is. absurd (not_none row rows is))

list_answer : (w : World) (by : ℕ) → reply_in w (by, ListLogs) ≡ reply.Numbers (map (λ (file : Filed). file.number) w.controlling.files)
unfolding reply_in
list_answer w by = refl

-- a file that is found reads as its text
read_kept : (made : Made) (file : CutFile) → log_reply made.heading file.number (kept_as file) ≡ reading made file
read_kept made file = elim (cases_Bool file.dropped) [
  | inl gone ↦ ap (log_reply made.heading file.number) (cond-true file.dropped None (Some (as_kept file)) gone) ∙ sym (cond-true file.dropped (reply.Unknown file.number) (reply.LogText (text_of made file)) gone)
  | inr stays ↦ ap (log_reply made.heading file.number) (cond-false file.dropped None (Some (as_kept file)) stays) ∙ sym (cond-false file.dropped (reply.Unknown file.number) (reply.LogText (text_of made file)) stays)
]

-- a file that is found is dropped
dropped_kept : (file : CutFile) → drop_reply file.number (kept_as file) ≡ dropping file
dropped_kept file = elim (cases_Bool file.dropped) [
  | inl gone ↦ ap (drop_reply file.number) (cond-true file.dropped None (Some (as_kept file)) gone) ∙ sym (cond-true file.dropped (reply.Unknown file.number) reply.Dropped gone)
  | inr stays ↦ ap (drop_reply file.number) (cond-false file.dropped None (Some (as_kept file)) stays) ∙ sym (cond-false file.dropped (reply.Unknown file.number) reply.Dropped stays)
]

module _ (made : Made) (h : History) where
  abbrev the_law : FileLaw made h
  the_law = file_law made h

  abbrev the_files : List CutFile
  the_files = the_law.ledger.files

  log_here : (by number : ℕ) → reply_to made h (by, LogFile number) ≡ log_reply made.heading number (file_of number (map as_kept (undropped the_files)))
  log_here by number = log_answer (world_of made h) by number
      ∙ ap (λ (m : Made). log_reply m.heading number (file_of number (world_of made h).controlling.files)) the_law.made_is
      ∙ ap (λ k. log_reply made.heading number (file_of number k)) the_law.ledger.kept

  drop_here : (by number : ℕ) → reply_to made h (by, DropLog number) ≡ drop_reply number (file_of number (map as_kept (undropped the_files)))
  drop_here by number = drop_answer (world_of made h) by number ∙ ap (λ k. drop_reply number (file_of number k)) the_law.ledger.kept

  was_cut : (place : ℕ) (file : CutFile) → slice_get the_files place ≡ Some file → WasMade made h file → WasCut made h file
  was_cut place file is was = record {
    pass = was.pass;
    answered = was.answered;
    written = was.written;
    some = was.some;
    dropped = was.dropped;
    reads = λ by. log_here by file.number ∙ ap (log_reply made.heading file.number) (found_numbered 1 the_files the_law.ledger.numbered place file is) ∙ read_kept made file;
    drops = λ by. drop_here by file.number ∙ ap (drop_reply file.number) (found_numbered 1 the_files the_law.ledger.numbered place file is) ∙ dropped_kept file;
  }

  nothing_here : (by moment : ℕ) → (reply_to made h (by, Cut moment) ≡ reply.NothingToCut) ↔ ((world_of made h).delivering.unfiled ≡ [])
  nothing_here by moment = let both = cut_nothing (world_of made h) (world_of made h).delivering.unfiled in let same = cut_answer (world_of made h) by moment in
      (λ is. both.0 (sym same ∙ is), λ is. same ∙ both.1 is)

  pub record_law : KeepsRecord made h
  record_law = record {
    deliveries = record { one = row_of_one made h; apart = rows_apart made h; each = row_of_each made h; next = λ pass delivery status total entity end is. ((world_of made h).counts.logged + 1, finish_answer (world_of made h) pass delivery status total entity end is) };
    files = the_files;
    cut = all_places (WasCut made h) the_files (λ place file is. was_cut place file is (All-contains (WasMade made h) the_files file the_law.ledger.cut (contains_got the_files place file is)));
    every = the_law.ledger.every;
    numbered = λ place file is. the_law.ledger.numbered place file is ∙ (omega arith);
    in_order = the_law.ledger.in_order;
    whole = the_law.ledger.whole;
    unfiled = the_law.ledger.unfiled;
    nothing = nothing_here;
    dropped = the_law.ledger.dropped;
    kept = the_law.ledger.kept;
    listed = λ by. list_answer (world_of made h) by ∙ ap (λ k. reply.Numbers (map (λ (file : Filed). file.number) k)) the_law.ledger.kept
        ∙ ap reply.Numbers (map-map (λ (file : Filed). file.number) as_kept (undropped the_files));
    unknown = λ by number others. (
      log_here by number ∙ ap (log_reply made.heading number) (none_of number the_files others),
      drop_here by number ∙ ap (drop_reply number) (none_of number the_files others),
    );
  }
