-- No two paths are the same.
use Rattle.std.proofs.Common.{◌≡◌, ◌⊎◌, inl, inr, IfSome, ℕ, suc, ◌+◌, ◌<◌, ◌≤◌, ◌^◌, Bool, true, false, List, [], ◌∷◌, ◌++◌, length, take, drop, refl, sym, ◌∙◌, ap, subst, None, Some, Option, cond, codes, decimal, bytes_eq, arith, length-append}
use Rattle.std.specs.Borrow.{Bor}
use Rattle.std.proofs.lemmas.Bool.{cases_Bool, cond-false, cond-true}
use Rattle.trigger_command.specs.TriggerUrl.{behind}
use Rattle.std.proofs.lemmas.List.{take-append-drop}
use Rattle.std.proofs.lemmas.Slice.Eq.{bytes_eq-Decides}
use Rattle.std.proofs.Math.Seq.{drop-append_seam, take-append_seam}
use Rattle.std.proofs.lemmas.Option.{none-some, same_Some}
use Rattle.listing.specs.Number.{number_of}
use Rattle.listing.proofs.Decimals.{decimal_some}
use Rattle.control_table.specs.Path.{Fits, filter_path, path_text}
use Rattle.control_table.specs.declared.path.ControlPath.{ControlPath}
use Rattle.control_table.specs.declared.path.ControlPath.TheVariants as place
use Rattle.trigger_status.specs.declared.job.Filter.{Filter}
use Rattle.trigger_status.specs.declared.job.Filter.TheVariants as filter

-- a text that is read as no number is none
no_number : (text : List ℕ) → None ≡ number_of text → (number : ℕ) → number < 2 ^ 64 → text ≡ decimal number → ⊥
no_number text none number small same = none-some _ (decimal_some text None none number small same)

-- the collections by their paths
abbrev filter_of : List ℕ → Option Filter
filter_of path =
    cond (bytes_eq path (codes "/triggers")) (Some filter.All)
    (cond (bytes_eq path (codes "/triggers/pending")) (Some filter.Pending)
    (cond (bytes_eq path (codes "/triggers/active")) (Some filter.Active)
    (cond (bytes_eq path (codes "/triggers/complete")) (Some filter.Complete)
    (cond (bytes_eq path (codes "/triggers/failed")) (Some filter.Failed) None))))

filter_again : (f : Filter) → filter_of (filter_path f) ≡ Some f
filter_again filter.All = refl
filter_again filter.Pending = refl
filter_again filter.Active = refl
filter_again filter.Complete = refl
filter_again filter.Failed = refl

pub filter_unique : (path : List ℕ) (f g : Filter) → path ≡ filter_path f → path ≡ filter_path g → Some f ≡ Some g
filter_unique path f g p q = sym (filter_again f) ∙ ap filter_of (sym p ∙ q) ∙ filter_again g

-- the path is none of these
pub no_filter : (path : List ℕ) → (path ≡ filter_path filter.All → ⊥) → (path ≡ filter_path filter.Pending → ⊥) → (path ≡ filter_path filter.Active → ⊥) → (path ≡ filter_path filter.Complete → ⊥) → (path ≡ filter_path filter.Failed → ⊥)
    → (f : Filter) → path ≡ filter_path f → None ≡ Some f
no_filter path all pending active complete failed filter.All p = absurd (all p)
no_filter path all pending active complete failed filter.Pending p = absurd (pending p)
no_filter path all pending active complete failed filter.Active p = absurd (active p)
no_filter path all pending active complete failed filter.Complete p = absurd (complete p)
no_filter path all pending active complete failed filter.Failed p = absurd (failed p)

-- a path that is a collection's is not a trigger's
abbrev rest_of : List ℕ → List ℕ
rest_of path = drop 10 path

abbrev name_of : Filter → List ℕ
name_of f = drop 10 (filter_path f)

no_trigger : (f : Filter) (id : ℕ) → id < 2 ^ 64 → filter_path f ≡ codes "/triggers/" ++ decimal id → ⊥
no_trigger filter.All id small same = no_number [] refl id small (ap rest_of same)
no_trigger filter.Pending id small same = no_number (codes "pending") refl id small (ap rest_of same)
no_trigger filter.Active id small same = no_number (codes "active") refl id small (ap rest_of same)
no_trigger filter.Complete id small same = no_number (codes "complete") refl id small (ap rest_of same)
no_trigger filter.Failed id small same = no_number (codes "failed") refl id small (ap rest_of same)

-- what kind of path it is, by its second byte
abbrev second : List ℕ → ℕ
second [] = 0
second (a ∷ []) = 0
second (a ∷ b ∷ rest) = b

of_filter : (f : Filter) → second (filter_path f) ≡ 116
of_filter filter.All = refl
of_filter filter.Pending = refl
of_filter filter.Active = refl
of_filter filter.Complete = refl
of_filter filter.Failed = refl

seconds_differ : (path : List ℕ) (one other : List ℕ) → path ≡ one → path ≡ other → (second one ≡ second other → ⊥) → ⊥
seconds_differ path one other p q differ = differ (ap second (sym p ∙ q))

-- the path is a collection's
pub is_filter : (path : List ℕ) (f : Filter) → path ≡ filter_path f → (p : ControlPath) → Fits p → path ≡ path_text p → Some (place.Triggers f) ≡ Some p
is_filter path f is (place.Triggers g) fits same = ap (λ (x : Filter). Some (place.Triggers x)) (same_Some _ _ (filter_unique path f g is same))
is_filter path f is (place.Trigger id) fits same = absurd (no_trigger f id fits (sym is ∙ same))
is_filter path f is place.Advertisement fits same = absurd (seconds_differ path (filter_path f) (codes "/fci") is same (λ e. omega (arith, of_filter f, e)))
is_filter path f is place.Logs fits same = absurd (seconds_differ path (filter_path f) (codes "/logs") is same (λ e. omega (arith, of_filter f, e)))
is_filter path f is (place.Log number) fits same = absurd (seconds_differ path (filter_path f) (codes "/logs/" ++ decimal number) is same (λ e. omega (arith, of_filter f, e)))

-- the path is the advertisement's
pub is_advertisement : (path : List ℕ) → path ≡ codes "/fci" → (p : ControlPath) → Fits p → path ≡ path_text p → Some place.Advertisement ≡ Some p
is_advertisement path is (place.Triggers f) fits same = absurd (seconds_differ path (filter_path f) (codes "/fci") same is (λ e. omega (arith, of_filter f, e)))
is_advertisement path is (place.Trigger id) fits same = absurd (seconds_differ path (codes "/fci") (codes "/triggers/" ++ decimal id) is same (λ e. omega (arith, e)))
is_advertisement path is place.Advertisement fits same = refl
is_advertisement path is place.Logs fits same = absurd (seconds_differ path (codes "/fci") (codes "/logs") is same (λ e. omega (arith, e)))
is_advertisement path is (place.Log number) fits same = absurd (seconds_differ path (codes "/fci") (codes "/logs/" ++ decimal number) is same (λ e. omega (arith, e)))

abbrev fifth : List ℕ → List ℕ
fifth path = drop 5 path

-- the path is that of the log files
no_log : (number : ℕ) → codes "/logs" ≡ codes "/logs/" ++ decimal number → ⊥
no_log number same = let p : 0 ≡ suc (length (decimal number)) = ap (λ (x : List ℕ). length (fifth x)) same in omega (arith, p)

pub is_logs : (path : List ℕ) → path ≡ codes "/logs" → (p : ControlPath) → Fits p → path ≡ path_text p → Some place.Logs ≡ Some p
is_logs path is (place.Triggers f) fits same = absurd (seconds_differ path (filter_path f) (codes "/logs") same is (λ e. omega (arith, of_filter f, e)))
is_logs path is (place.Trigger id) fits same = absurd (seconds_differ path (codes "/logs") (codes "/triggers/" ++ decimal id) is same (λ e. omega (arith, e)))
is_logs path is place.Advertisement fits same = absurd (seconds_differ path (codes "/logs") (codes "/fci") is same (λ e. omega (arith, e)))
is_logs path is place.Logs fits same = refl
is_logs path is (place.Log number) fits same = absurd (no_log number (sym is ∙ same))

-- two numbers behind the same front
same_number : (m n : ℕ) → m < 2 ^ 64 → n < 2 ^ 64 → decimal m ≡ decimal n → m ≡ n
same_number m n small less same = same_Some _ _ (sym (decimal_some (decimal m) _ refl m small refl) ∙ decimal_some (decimal m) _ refl n less same)

pub is_trigger : (path : List ℕ) (id : ℕ) → id < 2 ^ 64 → path ≡ codes "/triggers/" ++ decimal id → (p : ControlPath) → Fits p → path ≡ path_text p → Some (place.Trigger id) ≡ Some p
is_trigger path id small is (place.Triggers f) fits same = absurd (no_trigger f id small (sym same ∙ is))
is_trigger path id small is (place.Trigger other) fits same = ap (λ (n : ℕ). Some (place.Trigger n)) (same_number id other small fits (ap rest_of (sym is ∙ same)))
is_trigger path id small is place.Advertisement fits same = absurd (seconds_differ path (codes "/fci") (codes "/triggers/" ++ decimal id) same is (λ e. omega (arith, e)))
is_trigger path id small is place.Logs fits same = absurd (seconds_differ path (codes "/logs") (codes "/triggers/" ++ decimal id) same is (λ e. omega (arith, e)))
is_trigger path id small is (place.Log number) fits same = absurd (seconds_differ path (codes "/logs/" ++ decimal number) (codes "/triggers/" ++ decimal id) same is (λ e. omega (arith, e)))

abbrev sixth : List ℕ → List ℕ
sixth path = drop 6 path

pub is_log : (path : List ℕ) (number : ℕ) → number < 2 ^ 64 → path ≡ codes "/logs/" ++ decimal number → (p : ControlPath) → Fits p → path ≡ path_text p → Some (place.Log number) ≡ Some p
is_log path number small is (place.Triggers f) fits same = absurd (seconds_differ path (filter_path f) (codes "/logs/" ++ decimal number) same is (λ e. omega (arith, of_filter f, e)))
is_log path number small is (place.Trigger id) fits same = absurd (seconds_differ path (codes "/triggers/" ++ decimal id) (codes "/logs/" ++ decimal number) same is (λ e. omega (arith, e)))
is_log path number small is place.Advertisement fits same = absurd (seconds_differ path (codes "/fci") (codes "/logs/" ++ decimal number) same is (λ e. omega (arith, e)))
is_log path number small is place.Logs fits same = absurd (no_log number (sym same ∙ is))
is_log path number small is (place.Log other) fits same = ap (λ (n : ℕ). Some (place.Log n)) (same_number number other small fits (ap sixth (sym is ∙ same)))

-- the path is none of these
pub is_none : (path : List ℕ) → ((f : Filter) → path ≡ filter_path f → None ≡ Some f) → (path ≡ codes "/fci" → ⊥) → (path ≡ codes "/logs" → ⊥)
    → ((id : ℕ) → id < 2 ^ 64 → path ≡ codes "/triggers/" ++ decimal id → None ≡ Some id) → ((number : ℕ) → number < 2 ^ 64 → path ≡ codes "/logs/" ++ decimal number → None ≡ Some number)
    → (p : ControlPath) → Fits p → path ≡ path_text p → None ≡ Some p
is_none path filters advertisement logs trigger log (place.Triggers f) fits same = absurd (none-some _ (filters f same))
is_none path filters advertisement logs trigger log (place.Trigger id) fits same = absurd (none-some _ (trigger id fits same))
is_none path filters advertisement logs trigger log place.Advertisement fits same = absurd (advertisement same)
is_none path filters advertisement logs trigger log place.Logs fits same = absurd (logs same)
is_none path filters advertisement logs trigger log (place.Log number) fits same = absurd (none-some _ (log number fits same))

-- ---- a number behind a front

behind_is : (front text rest : List ℕ) → behind front text ≡ Some rest → text ≡ front ++ rest
behind_is front text rest is = elim (cases_Bool (bytes_eq (take (length front) text) front)) [
  | inl same ↦
      let tail : drop (length front) text ≡ rest = same_Some _ rest (sym (cond-true _ (Some (drop (length front) text)) None same) ∙ is) in
      sym (take-append-drop (length front) text) ∙ ap (λ t. t ++ drop (length front) text) ((bytes_eq-Decides (take (length front) text) front).0 same) ∙ ap (λ t. front ++ t) tail
  | inr differs ↦ absurd (none-some rest (sym (cond-false _ (Some (drop (length front) text)) None differs) ∙ is))
]

behind_front : (front rest : List ℕ) → behind front (front ++ rest) ≡ Some rest
behind_front front rest =
    cond-true _ (Some (drop (length front) (front ++ rest))) None ((bytes_eq-Decides (take (length front) (front ++ rest)) front).1 (take-append_seam front rest)) ∙ ap Some (drop-append_seam front rest)

-- the number that was read behind it
pub found_behind : (front path : List ℕ) (rest : Bor (List ℕ)) (found : Option ℕ) → Some rest.now ≡ behind front path → IfSome found (λ number. rest.now ≡ decimal number) → IfSome found (λ number. path ≡ front ++ decimal number)
found_behind front path rest None is read = tt
found_behind front path rest (Some number) is read = behind_is front path rest.now (sym is) ∙ ap (λ (x : List ℕ). front ++ x) read

pub only_behind : (front path : List ℕ) (rest : Bor (List ℕ)) → Some rest.now ≡ behind front path → (number : ℕ) → path ≡ front ++ decimal number → rest.now ≡ decimal number
only_behind front path rest is number same = same_Some _ _ (is ∙ ap (behind front) same ∙ behind_front front (decimal number))

-- nothing is behind it
pub none_behind : (front path : List ℕ) → None ≡ behind front path → (number : ℕ) → path ≡ front ++ decimal number → None ≡ Some number
none_behind front path is number same = absurd (none-some _ (is ∙ ap (behind front) same ∙ behind_front front (decimal number)))

pub none_behind_as : (front path : List ℕ) (result : Option ℕ) → result ≡ None → None ≡ behind front path → (number : ℕ) → path ≡ front ++ decimal number → result ≡ Some number
none_behind_as front path result none is number same = none ∙ none_behind front path is number same
