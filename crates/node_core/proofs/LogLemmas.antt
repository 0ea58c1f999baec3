-- What the calls of log files tell of a node's history.
use Rattle.std.proofs.Common.{◌≡◌, ℕ, ◌+◌, ◌<◌, ◌==◌, Bool, true, false, cond, not, List, [], ◌∷◌, length, map, refl, sym, ap, ◌∙◌, subst, arith, None, Some, Option, Result, Ok, Err, IfOk}
use Rattle.std.specs.declared.alloc.AllocError.{AllocError}
use Rattle.std.specs.List.{filter, find, list_any}
use Rattle.std.specs.Option.{is_some, option_map}
use Rattle.std.proofs.lemmas.Bool.{eqb-false}
use Rattle.std.proofs.lemmas.List.{length-map, map-append}
use Rattle.cdni_log.specs.declared.row.FileHead.{FileHead}
use Rattle.cdni_log.specs.declared.row.Row.{Row}
use Rattle.control_core.specs.Control.{ControlView, file_after, file_reply, has_number, text_at, with_file}
use Rattle.control_core.specs.declared.control.LogFile.{LogFile}
use Rattle.shelf.proofs.ListLemmas.{find-map, filter-map}
use Rattle.delivery_core.proofs.Squares as squares
use Rattle.delivery_core.specs.Edge.{EdgeView}
use Rattle.delivery_core.specs.Traces.{row_in}
use Rattle.history.specs.After.{after, after_reply}
use Rattle.history.specs.Event.{Entry, History, Cut, DropLog, LogFile as ReadLog, ListLogs}
use Rattle.history.specs.History.{world_of}
use Rattle.history.specs.Reply as replies
use Rattle.history.specs.Reply.{file_head, reply_in}
use Rattle.history.specs.World.{Filed, Made, Recorded, World}
use Rattle.history.specs.declared.reply.Reply.{Reply}
use Rattle.history.specs.declared.reply.Reply.TheVariants as reply
use Rattle.history.specs.declared.heading.Heading.{Heading}
use Rattle.node_core.proofs.EndLemmas.{any_found}
use Rattle.node_core.proofs.StateLemmas.{after_opens, control_by, control_kept, left_by, same_opened, state, told}
use Rattle.node_core.specs.Logs.{control_of, dropped_log, file_in, logged}
use Rattle.node_core.specs.State.{IsSound, Follows, Says}
use Rattle.trigger_table.specs.Triggers.{TriggersView}

-- ---- lists

same_some : {A : Type 0} {a b : A} → Some a ≡ Some b → a ≡ b
same_some is = cc

abbrev pub head_of : ℕ → ℕ → Heading → FileHead
head_of number moment heading = file_head heading number moment

none_of : {A : Type 0} (xs : List A) → length xs ≡ 0 → xs ≡ []
none_of [] is = refl
none_of (x ∷ xs) is = absurd (omega (arith, is))

some_map : {A B : Type 0} (f : A → B) (o : Option A) → is_some (option_map f o) ≡ is_some o
some_map f None = refl
some_map f (Some a) = refl

-- ---- a cut

filed_cases : (t : Bool) (control control' : ControlView) (number : ℕ) (head : FileHead) (rows : List Row) → Some number ≡ cond t None (Some (control.filed + 1)) → control' ≡ cond t control (with_file control head rows)
    → (number ≡ control.filed + 1) × (control' ≡ with_file control head rows)
filed_cases true control control' number head rows is after = absurd (cc)
filed_cases false control control' number head rows is after = (same_some is, after)

-- a file was kept, of this head and these rows
pub filed_by : (control control' : ControlView) (number : ℕ) (head head' : FileHead) (rows rows' : List Row) → Some number ≡ file_reply control → control' ≡ file_after control head rows → head ≡ head' → rows ≡ rows'
    → (number ≡ control.filed + 1) × (control' ≡ with_file control head' rows')
filed_by control control' number head head' rows rows' is after same all =
    let filed = filed_cases (length control.files == control.most) control control' number head rows is after in
    (filed.0, filed.1 ∙ ap (λ x. with_file control x rows) same ∙ ap (with_file control head') all)

pub heads_are : (moment number number' : ℕ) (heading heading' : Heading) → number ≡ number' → heading ≡ heading' → head_of (number + 1) moment heading ≡ head_of (number' + 1) moment heading'
heads_are moment number number' heading heading' is same = ap (λ n. head_of (n + 1) moment heading) is ∙ ap (head_of (number' + 1) moment) same

-- whether a limit is reached, and what is answered where none is
abbrev cut_by : World → Reply
cut_by w = cond (length w.controlling.files == w.made.limits.files) (reply.Full (length w.controlling.files)) (replies.opening w (reply.File (w.counts.filed + 1)))

cut_some : (w : World) (rows : List Recorded) → 0 < length rows → replies.cut_reply w rows ≡ cut_by w
cut_some w [] some = absurd (omega (arith, some))
cut_some w (row ∷ rows) some = refl

opened_by_it : (w : World) (full : Bool) (many : Bool) (r : Reply) → (length w.controlling.files == w.made.limits.files) ≡ full → (w.counts.opened == w.made.limits.opened) ≡ many
    → cond full (reply.Full (length w.controlling.files)) (cond many (reply.Full w.counts.opened) r) ≡ cond (length w.controlling.files == w.made.limits.files) (reply.Full (length w.controlling.files)) (cond (w.counts.opened == w.made.limits.opened) (reply.Full w.counts.opened) r)
opened_by_it w full many r is also =
    ap (λ t. cond t (reply.Full (length w.controlling.files)) (cond many (reply.Full w.counts.opened) r)) (sym is)
    ∙ ap (λ t. cond (length w.controlling.files == w.made.limits.files) (reply.Full (length w.controlling.files)) (cond t (reply.Full w.counts.opened) r)) (sym also)

cut_files : (w : World) (pass moment : ℕ) → control_of (after_reply w (pass, Cut moment) (reply.File (w.counts.filed + 1)))
    ≡ with_file (control_of w) (file_head w.made.heading (w.counts.filed + 1) moment) (map row_in w.delivering.unfiled)
unfolding after_reply
cut_files w pass moment = ap (λ fs. record (control_of w) { files = fs; filed = w.counts.filed + 1 }) (map-append (file_in w.made.heading) w.controlling.files _)

module _ (made : Made) (h : History) (edge : EdgeView) (control : ControlView) (heading : Heading) (opened : ℕ) (s : Follows (state edge control heading opened) made h) where
  abbrev w : World
  w = world_of made h

  rows_are : edge.unfiled ≡ map row_in w.delivering.unfiled
  rows_are = ap (λ (v : EdgeView). v.unfiled) s.edge

  many_rows : length edge.unfiled ≡ length w.delivering.unfiled
  many_rows = ap length rows_are ∙ length-map w.delivering.unfiled row_in

  many_files : length control.files ≡ length w.controlling.files
  many_files = ap (λ (v : ControlView). length v.files) s.control ∙ length-map w.controlling.files (file_in w.made.heading)

  full_is : (t : Bool) → (length control.files == edge.limits.files) ≡ t → (length w.controlling.files == w.made.limits.files) ≡ t
  full_is t is = sym (ap (λ n. n == edge.limits.files) many_files ∙ ap (λ (v : EdgeView). length w.controlling.files == v.limits.files) s.edge) ∙ is

  opened_is : (t : Bool) → (opened == edge.limits.opened) ≡ t → (w.counts.opened == w.made.limits.opened) ≡ t
  opened_is t is = sym (ap (λ n. n == edge.limits.opened) s.opened ∙ ap (λ (v : EdgeView). w.counts.opened == v.limits.opened) s.edge) ∙ is

  module _ (pass moment : ℕ) where
    abbrev cut : Entry
    cut = (pass, Cut moment)

    replied_by : 0 < length edge.unfiled → (full many : Bool) → (length control.files == edge.limits.files) ≡ full → (opened == edge.limits.opened) ≡ many
        → cond full (reply.Full (length w.controlling.files)) (cond many (reply.Full w.counts.opened) (reply.File (w.counts.filed + 1))) ≡ reply_in w cut
    unfolding reply_in
    replied_by some full many is also =
        opened_by_it w full many (reply.File (w.counts.filed + 1)) (full_is full is) (opened_is many also) ∙ sym (cut_some w w.delivering.unfiled (omega (arith, some, many_rows)))

    nothing_replied : length edge.unfiled ≡ 0 → reply.NothingToCut ≡ reply_in w cut
    unfolding reply_in
    nothing_replied none = ap (replies.cut_reply w) (sym (none_of w.delivering.unfiled (sym many_rows ∙ none)))

    -- nothing is unfiled
    pub nothing_told : length edge.unfiled ≡ 0 → Says made h cut reply.NothingToCut (state edge control heading opened)
    nothing_told none =
        let replied = nothing_replied none in
        told made h cut reply.NothingToCut edge control heading opened replied
        (s.edge ∙ sym (left_by w cut reply.NothingToCut (sym replied) ∙ squares.uncut_leaves w pass moment))
        (s.control ∙ control_kept w cut reply.NothingToCut replied refl refl refl refl) s.heading
        (s.opened ∙ same_opened w.counts.opened ∙ after_opens w cut reply.NothingToCut replied)

    full_told_by : (count : ℕ) → reply.Full count ≡ reply_in w cut → Says made h cut (reply.Full count) (state edge control heading opened)
    full_told_by count replied =
        told made h cut (reply.Full count) edge control heading opened replied
        (s.edge ∙ sym (left_by w cut (reply.Full count) (sym replied) ∙ squares.full_cut_leaves w pass moment count))
        (s.control ∙ control_kept w cut (reply.Full count) replied refl refl refl refl) s.heading
        (s.opened ∙ same_opened w.counts.opened ∙ after_opens w cut (reply.Full count) replied)

    -- as many files are kept as may be
    pub full_told : 0 < length edge.unfiled → (length control.files == edge.limits.files) ≡ true → Says made h cut (reply.Full (length control.files)) (state edge control heading opened)
    full_told some is = full_told_by (length control.files) (ap (λ n. reply.Full n) many_files ∙ replied_by some true (opened == edge.limits.opened) is refl)

    -- as many answers opened something as may
    pub spent_told : 0 < length edge.unfiled → (length control.files == edge.limits.files) ≡ false → (opened == edge.limits.opened) ≡ true → Says made h cut (reply.Full opened) (state edge control heading opened)
    spent_told some is also = full_told_by opened (ap (λ n. reply.Full n) s.opened ∙ replied_by some false true is also)

    -- the rows are filed
    pub file_told : (edge' : EdgeView) (control' : ControlView) (number : ℕ) → 0 < length edge.unfiled → (length control.files == edge.limits.files) ≡ false → (opened == edge.limits.opened) ≡ false
        → number ≡ control.filed + 1 → edge' ≡ record edge { unfiled = [] } → control' ≡ with_file control (file_head heading (control.filed + 1) moment) edge.unfiled
        → Says made h cut (reply.File number) (state edge' control' heading (opened + 1))
    file_told edge' control' number some is also numbered left kept =
        let filed : control.filed + 1 ≡ w.counts.filed + 1 = ap (λ (v : ControlView). v.filed + 1) s.control in
        let replied : reply.File number ≡ reply_in w cut = ap (λ n. reply.File n) (numbered ∙ filed) ∙ replied_by some false false is also in
        let new : reply.File (w.counts.filed + 1) ≡ reply_in w cut = replied_by some false false is also in
        told made h cut (reply.File number) edge' control' heading (opened + 1) replied
        (left ∙ ap (λ (v : EdgeView). record v { unfiled = [] }) s.edge ∙ sym (left_by w cut (reply.File number) (sym replied) ∙ squares.cut_leaves w pass moment number))
        (kept ∙ ap (λ (v : ControlView). with_file v (file_head heading (v.filed + 1) moment) edge.unfiled) s.control
        ∙ ap (λ o. with_file (control_of w) (file_head o (w.counts.filed + 1) moment) edge.unfiled) s.heading
        ∙ ap (with_file (control_of w) (file_head w.made.heading (w.counts.filed + 1) moment)) rows_are
        ∙ sym (control_by w cut (reply.File (w.counts.filed + 1)) new ∙ cut_files w pass moment))
        s.heading
        (ap (λ n. n + 1) s.opened ∙ after_opens w cut (reply.File number) replied)

  -- ---- reading, listing and dropping

  module _ (pass number : ℕ) where
    found_files : find (has_number number) control.files ≡ option_map (file_in w.made.heading) (replies.file_of number w.controlling.files)
    found_files = ap (λ (v : ControlView). find (has_number number) v.files) s.control ∙ find-map (file_in w.made.heading) (has_number number) w.controlling.files

    log_by : (found : Option Filed) → logged number (option_map (λ (file : LogFile). file.text) (option_map (file_in w.made.heading) found)) ≡ replies.log_reply w.made.heading number found
    log_by None = refl
    log_by (Some filed) = refl

    log_replied : logged number (text_at number control.files) ≡ reply_in w (pass, ReadLog number)
    unfolding reply_in
    log_replied = ap (λ found. logged number (option_map (λ (file : LogFile). file.text) found)) found_files ∙ log_by (replies.file_of number w.controlling.files)

    log_told_by : (text : Option (List ℕ)) → logged number text ≡ reply_in w (pass, ReadLog number) → Says made h (pass, ReadLog number) (logged number text) (state edge control heading opened)
    log_told_by None replied =
        told made h (pass, ReadLog number) (reply.Unknown number) edge control heading opened replied
        (s.edge ∙ sym (left_by w (pass, ReadLog number) (reply.Unknown number) (sym replied) ∙ squares.no_log_leaves w pass number))
        (s.control ∙ control_kept w (pass, ReadLog number) (reply.Unknown number) replied refl refl refl refl) s.heading
        (s.opened ∙ same_opened w.counts.opened ∙ after_opens w (pass, ReadLog number) (reply.Unknown number) replied)
    log_told_by (Some text) replied =
        told made h (pass, ReadLog number) (reply.LogText text) edge control heading opened replied
        (s.edge ∙ sym (left_by w (pass, ReadLog number) (reply.LogText text) (sym replied) ∙ squares.log_leaves w pass number text))
        (s.control ∙ control_kept w (pass, ReadLog number) (reply.LogText text) replied refl refl refl refl) s.heading
        (s.opened ∙ same_opened w.counts.opened ∙ after_opens w (pass, ReadLog number) (reply.LogText text) replied)

    pub log_told : Says made h (pass, ReadLog number) (logged number (text_at number control.files)) (state edge control heading opened)
    log_told = log_told_by (text_at number control.files) log_replied

    -- the text of the file, where there is memory for it
    pub log_ok : (found : Option (List ℕ)) (r : Result Reply AllocError) → found ≡ text_at number control.files → IfOk r (λ a. a ≡ logged number found) → IfOk r (λ a. Says made h (pass, ReadLog number) a (state edge control heading opened))
    log_ok found (Ok a) is answer = subst (λ b. Says made h (pass, ReadLog number) b (state edge control heading opened)) (sym (answer ∙ ap (logged number) is)) log_told
    log_ok found (Err e) is answer = tt

    any_is : list_any (has_number number) control.files ≡ is_some (replies.file_of number w.controlling.files)
    any_is = any_found (has_number number) control.files ∙ ap is_some found_files ∙ some_map (file_in w.made.heading) (replies.file_of number w.controlling.files)

    drop_by : (found : Option Filed) → dropped_log number (is_some found) ≡ replies.drop_reply number found
    drop_by None = refl
    drop_by (Some filed) = refl

    drop_replied : (dropped : Bool) → dropped ≡ list_any (has_number number) control.files → dropped_log number dropped ≡ reply_in w (pass, DropLog number)
    unfolding reply_in
    drop_replied dropped is = ap (dropped_log number) (is ∙ any_is) ∙ drop_by (replies.file_of number w.controlling.files)

    kept_files : filter (λ file. not (has_number number file)) control.files ≡ map (file_in w.made.heading) (filter (λ (file : Filed). not (file.number == number)) w.controlling.files)
    kept_files = ap (λ (v : ControlView). filter (λ file. not (has_number number file)) v.files) s.control ∙ filter-map (file_in w.made.heading) (λ file. not (has_number number file)) w.controlling.files

    dropped_files : (dropped : Bool) → record control { files = filter (λ file. not (has_number number file)) control.files } ≡ control_of (after_reply w (pass, DropLog number) (dropped_log number dropped))
    unfolding after_reply
    dropped_files true = ap (λ fs. record control { files = fs }) kept_files ∙ ap (λ (v : ControlView). record v { files = map (file_in w.made.heading) (filter (λ (file : Filed). not (file.number == number)) w.controlling.files) }) s.control
    dropped_files false = ap (λ fs. record control { files = fs }) kept_files ∙ ap (λ (v : ControlView). record v { files = map (file_in w.made.heading) (filter (λ (file : Filed). not (file.number == number)) w.controlling.files) }) s.control

    drop_told_by : (control' : ControlView) (dropped : Bool) → dropped_log number dropped ≡ reply_in w (pass, DropLog number)
        → control' ≡ control_of (after_reply w (pass, DropLog number) (dropped_log number dropped)) → Says made h (pass, DropLog number) (dropped_log number dropped) (state edge control' heading opened)
    drop_told_by control' true replied kept =
        told made h (pass, DropLog number) reply.Dropped edge control' heading opened replied
        (s.edge ∙ sym (left_by w (pass, DropLog number) reply.Dropped (sym replied) ∙ squares.dropped_leaves w pass number))
        (kept ∙ sym (control_by w (pass, DropLog number) reply.Dropped replied)) s.heading
        (s.opened ∙ same_opened w.counts.opened ∙ after_opens w (pass, DropLog number) reply.Dropped replied)
    drop_told_by control' false replied kept =
        told made h (pass, DropLog number) (reply.Unknown number) edge control' heading opened replied
        (s.edge ∙ sym (left_by w (pass, DropLog number) (reply.Unknown number) (sym replied) ∙ squares.undropped_leaves w pass number))
        (kept ∙ sym (control_by w (pass, DropLog number) (reply.Unknown number) replied)) s.heading
        (s.opened ∙ same_opened w.counts.opened ∙ after_opens w (pass, DropLog number) (reply.Unknown number) replied)

    pub drop_told : (control' : ControlView) (dropped : Bool) → dropped ≡ list_any (has_number number) control.files → control' ≡ record control { files = filter (λ file. not (has_number number file)) control.files }
        → Says made h (pass, DropLog number) (dropped_log number dropped) (state edge control' heading opened)
    drop_told control' dropped is kept = drop_told_by control' dropped (drop_replied dropped is) (kept ∙ dropped_files dropped)

  module _ (pass : ℕ) where
    numbers_are : (files : List Filed) → map (λ (file : LogFile). file.number) (map (file_in w.made.heading) files) ≡ map (λ (file : Filed). file.number) files
    numbers_are [] = refl
    numbers_are (file ∷ files) = ap (λ ns. file.number ∷ ns) (numbers_are files)

    list_replied : reply.Numbers (map (λ (file : LogFile). file.number) control.files) ≡ reply_in w (pass, ListLogs)
    unfolding reply_in
    list_replied = ap (λ (v : ControlView). reply.Numbers (map (λ (file : LogFile). file.number) v.files)) s.control ∙ ap (λ ns. reply.Numbers ns) (numbers_are w.controlling.files)

    pub list_told : (numbers : List ℕ) → numbers ≡ map (λ (file : LogFile). file.number) control.files → Says made h (pass, ListLogs) (reply.Numbers numbers) (state edge control heading opened)
    list_told numbers are =
        let replied : reply.Numbers numbers ≡ reply_in w (pass, ListLogs) = ap (λ ns. reply.Numbers ns) are ∙ list_replied in
        told made h (pass, ListLogs) (reply.Numbers numbers) edge control heading opened replied
        (s.edge ∙ sym (left_by w (pass, ListLogs) (reply.Numbers numbers) (sym replied) ∙ squares.list_leaves w pass numbers))
        (s.control ∙ control_kept w (pass, ListLogs) (reply.Numbers numbers) replied refl refl refl refl) s.heading
        (s.opened ∙ same_opened w.counts.opened ∙ after_opens w (pass, ListLogs) (reply.Numbers numbers) replied)

-- ---- soundness

module _ (edge : EdgeView) (control : ControlView) (opened : ℕ) (s : IsSound edge control opened) where
  pub file_sound : (edge' : EdgeView) (control' : ControlView) (number : ℕ) (filed : ℕ) → (opened == edge.limits.opened) ≡ false → edge' ≡ record edge { unfiled = [] }
      → control'.filed ≡ control.filed + 1 → control'.most ≡ control.most → control'.triggers ≡ control.triggers → IsSound edge' control' (opened + 1)
  file_sound edge' control' number filed room left more most table =
      let other = eqb-false opened edge.limits.opened room in
      rw left (record {
        begun = (let b = s.begun in omega (arith, more, ap (λ (t : TriggersView). t.created) table));
        fetched = (let f = s.fetched in omega arith);
        few = (let f = s.few in omega arith);
        limit = s.limit;
        most_files = most ∙ s.most_files;
        most_triggers = ap (λ (t : TriggersView). t.most) table ∙ s.most_triggers;
      })

  pub drop_sound : (control' : ControlView) → control'.filed ≡ control.filed → control'.most ≡ control.most → control'.triggers ≡ control.triggers → IsSound edge control' opened
  drop_sound control' filed most table = record {
    begun = (let b = s.begun in omega (arith, filed, ap (λ (t : TriggersView). t.created) table));
    fetched = s.fetched;
    few = s.few;
    limit = s.limit;
    most_files = most ∙ s.most_files;
    most_triggers = ap (λ (t : TriggersView). t.most) table ∙ s.most_triggers;
  }
