-- How far a gathering came.
use Rattle.std.proofs.Common.{◌≡◌, ◌⊎◌, ℕ, ◌+◌, ◌<◌, ◌≤◌, true, false, List, [], ◌∷◌, ◌++◌, reverse, length, drop, None, Some, Ok, Err, refl, sym, ◌∙◌, ap, arith, inl, inr, length-append, nat_lt, nat_le, Bool, ◌||◌, get_or, zero, suc, unwrap_or, drop-cons, add-one}
use Rattle.std.specs.List.{slice_get}
use Rattle.std.proofs.lemmas.Option.{none-some, slice_get_within}
use Rattle.std.proofs.lemmas.Bool.{lt-ltb, le-ltb}
use Rattle.std.proofs.lemmas.List.{reverse-append}
use Rattle.std.specs.List.{list_any}
use Rattle.std.specs.declared.option.Option.{Option}
use Rattle.std.specs.declared.result.Result.{Result}
use Rattle.cdni_base.specs.Key.{KeyParts, same_key}
use Rattle.json_read.specs.Text.{json_of}
use Rattle.serde_json.specs.Data.{Data}
use Rattle.targets.specs.Target.{url_text}
use Rattle.metadata_objects.specs.declared.fault.MetaFault.TheVariants as meta_fault
use Rattle.metadata_links.specs.Answers.{HasLink, LeadsFrom, Leads, Comes}
use Rattle.metadata_links.specs.Finding.{Listing, in_document}
use Rattle.metadata_links.specs.Gathering.{Step, over, next_among, next_of, step_of, step_by, step_to, key_at, refused, opened_with, opening, kept_texts, with_document, received}
use Rattle.metadata_links.specs.Href.{base_of}
use Rattle.metadata_links.specs.State.{Opened, State, Next, done, leads, stops}
use Rattle.metadata_links.specs.declared.fault.LinkFault.{LinkFault}
use Rattle.metadata_links.specs.declared.fault.LinkFault.TheVariants as link_fault
use Rattle.metadata_links.specs.declared.gathering.TheConstants.{DOCUMENTS_MAX, TEXTS_MAX}
use Rattle.metadata_links.specs.declared.link.Link.{Link}

-- ---- the next Link

got : (links : List Link) (i : ℕ) (link other : Link) → slice_get links i ≡ Some link → get_or links i other ≡ link
got [] i link other is = absurd (none-some _ is)
got (first ∷ links) zero link other is = ap (λ o. unwrap_or o other) is
got (first ∷ links) (suc i) link other is = got links i link other is

drop_get : (links : List Link) (i : ℕ) (link : Link) → slice_get links i ≡ Some link → drop i links ≡ link ∷ drop (i + 1) links
drop_get links i link is = drop-cons links i link (slice_get_within links i link is) ∙ ap (λ l. l ∷ drop (suc i) links) (got links i link link is)
    ∙ ap (λ n. link ∷ drop n links) (sym (add-one i))

abbrev pub opened_at : KeyParts → List Link → Option (List ℕ) → Opened
opened_at key links bad = record { key = key; links = links; bad = bad }

pub next_is : (key : KeyParts) (bad : Option (List ℕ)) (links : List Link) (i : ℕ) (link found : Link) → slice_get links i ≡ Some found → link ≡ found
    → opened_at key (drop i links) bad ≡ opened_at key (link ∷ drop (i + 1) links) bad
next_is key bad links i link found is same = ap (λ ls. opened_at key ls bad) (drop_get links i found is ∙ ap (λ l. l ∷ drop (i + 1) links) (sym same))

turned : {A : Type 0} (front : List A) (x : A) → reverse (front ++ x ∷ []) ≡ x ∷ reverse front
turned front x = reverse-append front (x ∷ [])

next_cons : (document : Opened) (documents : List Opened) → next_of (document ∷ documents) ≡ next_among document.links document.bad document.key documents (next_of documents)
unfolding next_of
next_cons document documents = refl

module _ (whole : Next) (before front : List Opened) (document after : Opened) (so_far : next_of (reverse before) ≡ whole) (parts : before ≡ front ++ document ∷ []) where
  innermost : whole ≡ next_among document.links document.bad document.key (reverse front) (next_of (reverse front))
  innermost = sym so_far ∙ ap (λ xs. next_of (reverse xs)) parts ∙ ap next_of (turned front document) ∙ next_cons document (reverse front)

  pub has_next : (link : Link) → document ≡ record after { links = link ∷ after.links } → (now : List Opened) → now ≡ front ++ after ∷ [] → whole ≡ leads link (reverse now)
  has_next link is now put = innermost ∙ ap (λ d. next_among d.links d.bad d.key (reverse front) (next_of (reverse front))) is
      ∙ ap (leads link) (sym (turned front after)) ∙ ap (λ xs. leads link (reverse xs)) (sym put)

  pub is_bad : (path : List ℕ) → document.links ≡ [] → after ≡ document → Some path ≡ after.bad → whole ≡ stops path
  is_bad path none same is = innermost ∙ ap (λ ls. next_among ls document.bad document.key (reverse front) (next_of (reverse front))) none
      ∙ ap (λ b. next_among [] b document.key (reverse front) (next_of (reverse front))) (sym (ap (λ d. d.bad) same) ∙ sym is)

  pub is_left : document.links ≡ [] → after ≡ document → None ≡ after.bad → next_of (reverse front) ≡ whole
  is_left none same is = sym (innermost ∙ ap (λ ls. next_among ls document.bad document.key (reverse front) (next_of (reverse front))) none
      ∙ ap (λ b. next_among [] b document.key (reverse front) (next_of (reverse front))) (sym (ap (λ d. d.bad) same) ∙ sym is))

none_next : next_of [] ≡ done
unfolding next_of
none_next = refl

pub all_left : (whole : Next) (before : List Opened) → next_of (reverse before) ≡ whole → before ≡ [] → whole ≡ done
all_left whole before so_far is = sym so_far ∙ ap (λ xs. next_of (reverse xs)) is ∙ none_next

pub leads_step : (before after : List Opened) (texts : List (List ℕ)) (resources : List KeyParts) (size : ℕ) (result : Result (Option Link) LinkFault) → LeadsFrom before after result
    → Leads (step_of (record { opened = reverse before; texts = texts; resources = resources; size = size })) (record { opened = reverse after; texts = texts; resources = resources; size = size }) result
leads_step before after texts resources size (Ok None) is =
    let state : State = record { opened = reverse before; texts = texts; resources = resources; size = size } in
    ap (step_by state) is.0 ∙ ap (λ xs. over (Ok (record { opened = reverse xs; texts = texts; resources = resources; size = size }))) (sym is.1)
leads_step before after texts resources size (Ok (Some link)) is =
    let state : State = record { opened = reverse before; texts = texts; resources = resources; size = size } in ap (step_by state) is
leads_step before after texts resources size (Err (link_fault.BadHref path)) is =
    let state : State = record { opened = reverse before; texts = texts; resources = resources; size = size } in inl (ap (step_by state) is)
leads_step before after texts resources size (Err link_fault.Memory) is = inr refl
leads_step before after texts resources size (Err (link_fault.Fetch ended)) is = absurd is
leads_step before after texts resources size (Err (link_fault.Meta fault)) is = absurd is
leads_step before after texts resources size (Err (link_fault.Loop href)) is = absurd is
leads_step before after texts resources size (Err (link_fault.TooMany count)) is = absurd is
leads_step before after texts resources size (Err (link_fault.TooLong len)) is = absurd is

-- ---- a document more

abbrev pub state_at : List Opened → List (List ℕ) → List KeyParts → ℕ → State
state_at opened texts resources size = record { opened = reverse opened; texts = texts; resources = resources; size = size }

more_than : (a b : ℕ) → a < b → nat_lt a b ≡ true
more_than = lt-ltb

not_more : (a b : ℕ) → b ≤ a → nat_lt a b ≡ false
not_more = le-ltb

pub opens : (link : Link) (text bytes base : List ℕ) (key : KeyParts) (value : Data) (listing : Listing) → json_of bytes ≡ Some value → bytes ≡ text → base ≡ base_of link.target → key ≡ key_at link.target
    → in_document base link.place link.depth value ≡ listing → opening link text ≡ Ok (opened_with key listing)
unfolding opening
opens link text bytes base key value listing is same at named lists = rw (← same, is, ← at, ← named, lists) refl

pub opens_none : (link : Link) (text bytes : List ℕ) → json_of bytes ≡ None → bytes ≡ text → opening link text ≡ Err (link_fault.Meta meta_fault.NotJson)
unfolding opening
opens_none link text bytes is same = rw (← same, is) refl

pub is_added : (opened now : List Opened) (texts kept : List (List ℕ)) (resources keys : List KeyParts) (before depth size : ℕ) (text : List ℕ) (document : Opened)
    → now ≡ opened ++ document ∷ [] → kept ≡ kept_texts texts depth text → keys ≡ resources ++ document.key ∷ []
    → state_at now kept keys size ≡ with_document (state_at opened texts resources before) depth text size document
unfolding with_document
is_added opened now texts kept resources keys before depth size text document put keep key = rw (put, keep, key, turned opened document) refl

module _ (state : State) (link : Link) (text bytes : List ℕ) (size : ℕ) (same : bytes ≡ text) (so_far : size ≡ state.size) where
  all_bytes : state.size + length text ≡ size + length bytes
  all_bytes = rw (same, so_far) refl

  pub too_long : TEXTS_MAX < size + length bytes → received state link text ≡ Err (link_fault.TooLong (size + length bytes))
  unfolding received
  too_long more = rw (all_bytes, more_than TEXTS_MAX (size + length bytes) more) refl

  pub is_received : (document : Opened) → size + length bytes ≤ TEXTS_MAX → opening link text ≡ Ok document
      → received state link text ≡ Ok (with_document state link.depth text (size + length bytes) document)
  unfolding received
  is_received document fits is = rw (all_bytes, not_more TEXTS_MAX (size + length bytes) fits, is) refl

  pub not_received : (after : State) (fault : LinkFault) → size + length bytes ≤ TEXTS_MAX → (opening link text ≡ Err fault) ⊎ (fault ≡ link_fault.Memory) → Comes {A = Unit {0}} (received state link text) after (Err fault)
  unfolding received
  not_received after fault fits (inl is) = inl (rw (all_bytes, not_more TEXTS_MAX (size + length bytes) fits, is) refl)
  not_received after fault fits (inr memory) = inr memory

pub one_key_more : (state : State) (depth size : ℕ) (text : List ℕ) (document : Opened) → length (with_document state depth text size document).resources ≡ length state.resources + 1
unfolding with_document
one_key_more state depth size text document = length-append state.resources (document.key ∷ [])

-- ---- refusing

or_assoc : (a b c : Bool) → a || (b || c) ≡ (a || b) || c
or_assoc true b c = refl
or_assoc false b c = refl

any_of_both : {A : Type 0} (test : A → Bool) (xs ys : List A) → list_any test (xs ++ ys) ≡ list_any test xs || list_any test ys
any_of_both test [] ys = refl
any_of_both test (x ∷ xs) ys = ap (λ b. test x || b) (any_of_both test xs ys) ∙ or_assoc (test x) (list_any test xs) (list_any test ys)

either_way : (a b : Bool) → a || (b || false) ≡ b || a
either_way true true = refl
either_way true false = refl
either_way false true = refl
either_way false false = refl

turned_cons : {A : Type 0} (x : A) (xs : List A) → reverse (x ∷ xs) ≡ reverse xs ++ x ∷ []
turned_cons x xs = reverse-append (x ∷ []) xs

any_turned : {A : Type 0} (test : A → Bool) (xs : List A) → list_any test (reverse xs) ≡ list_any test xs
any_turned test [] = refl
any_turned test (x ∷ xs) = ap (list_any test) (turned_cons x xs) ∙ any_of_both test (reverse xs) (x ∷ []) ∙ ap (λ b. b || (test x || false)) (any_turned test xs) ∙ either_way (list_any test xs) (test x)

stands_so : (opened : List Opened) (link : Link) (key : KeyParts) (b : Bool) → key ≡ key_at link.target → list_any (λ d. same_key d.key key) opened ≡ b → list_any (λ d. same_key d.key (key_at link.target)) (reverse opened) ≡ b
stands_so opened link key b named stands = any_turned (λ d. same_key d.key (key_at link.target)) opened ∙ ap (λ k. list_any (λ d. same_key d.key k) opened) (sym named) ∙ stands

pub is_loop : (opened : List Opened) (texts : List (List ℕ)) (resources : List KeyParts) (size : ℕ) (link : Link) (key : KeyParts) (href : List ℕ) → key ≡ key_at link.target → list_any (λ d. same_key d.key key) opened ≡ true → href ≡ url_text false link.target
    → refused (state_at opened texts resources size) link ≡ Some (link_fault.Loop href)
unfolding refused
is_loop opened texts resources size link key href named stands url = rw (stands_so opened link key true named stands, url) refl

pub is_one_too_many : (opened : List Opened) (texts : List (List ℕ)) (resources : List KeyParts) (size : ℕ) (link : Link) (key : KeyParts) → key ≡ key_at link.target → list_any (λ d. same_key d.key key) opened ≡ false → DOCUMENTS_MAX ≤ length resources
    → refused (state_at opened texts resources size) link ≡ Some (link_fault.TooMany (DOCUMENTS_MAX + 1))
unfolding refused
is_one_too_many opened texts resources size link key named stands more = rw (stands_so opened link key false named stands, not_more (length resources) DOCUMENTS_MAX more) refl

pub not_refused : (opened : List Opened) (texts : List (List ℕ)) (resources : List KeyParts) (size : ℕ) (link : Link) (key : KeyParts) → key ≡ key_at link.target → list_any (λ d. same_key d.key key) opened ≡ false → length resources < DOCUMENTS_MAX
    → refused (state_at opened texts resources size) link ≡ None
unfolding refused
not_refused opened texts resources size link key named stands few = rw (stands_so opened link key false named stands, more_than (length resources) DOCUMENTS_MAX few) refl
