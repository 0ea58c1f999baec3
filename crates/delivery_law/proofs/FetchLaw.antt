-- Each kept object is what one fetch brought that no start has hit since it began.
use Rattle.std.proofs.Common.{◌≡◌, ℕ, ◌+◌, ◌<◌, ◌==◌, false, ◌&&◌, IsTrue, List, [], ◌∷◌, ◌++◌, length, All, refl, sym, ap, ◌∙◌, subst, inl, inr, None, Some, Option, nat_lt, arith}
use Rattle.std.specs.List.{list_any}
use Rattle.std.proofs.lemmas.Bool.{and_cases, and_parts, both_ways, eqb-true, lt-ltb}
use Rattle.std.proofs.lemmas.List.Elements.{All-append, All-nil, All-same, All-weaker}
use Rattle.std.proofs.lemmas.Option.{none-some, same_Some}
use Rattle.cdni_base.specs.KeyEqualityLemmas.{key_decides}
use Rattle.cdni_base.specs.Key.{KeyParts}
use Rattle.targets.specs.declared.endpoint.Endpoint.{Endpoint}
use Rattle.targets.specs.declared.target.Target.{Target}
use Rattle.trigger_command.specs.Selection.{Hits, hits}
use Rattle.trigger_command.specs.declared.selection.Selection.{Selection}
use Rattle.trigger_command.proofs.SelectionLemmas.{hits_decides}
use Rattle.upstream_gate.specs.declared.outcome.Outcome.TheVariants as outcome
use Rattle.history.proofs.Cases.{admit_cases}
use Rattle.history.proofs.Numbers.{entries_are}
use Rattle.history.proofs.Words.{world_none, world_push}
use Rattle.history.specs.After.{begun_fetch, fetches_after, fetching}
use Rattle.history.specs.Event.{Entry, Event, History, Admit, FetchEnd, Request}
use Rattle.history.specs.History.{reply_to, world_of}
use Rattle.history.specs.Kept.{is_hit_since, is_of, kept_of}
use Rattle.history.specs.Metadata.{key_at, plan_at}
use Rattle.history.specs.Reply.{reply_in}
use Rattle.history.specs.Steps.{index_of}
use Rattle.history.specs.World.{Begun, Kept, Made, Start, World, is_open}
use Rattle.history.specs.declared.begun.Fetching.{Fetching}
use Rattle.history.specs.declared.reply.Reply.{Reply}
use Rattle.history.specs.declared.reply.Reply.TheVariants as reply
use Rattle.delivery_law.specs.Fetches.{BeginsItsFetch, FetchBegan, FetchBrought, Fetched, IsOfOneFetch, NoStartHits, fetched_target, index_after}
use Rattle.delivery_law.proofs.Entries.{GainedBy, begun_by, each_fetch, each_kept, fetches_are, new_starts, starts_grow}
use Rattle.delivery_law.proofs.Lists.{found_any, found_is, no_any, none_found}
use Rattle.delivery_law.proofs.Places.{from_right, length_push, longer, within}
use Rattle.delivery_law.proofs.StartLaw.{untaken}

-- an open fetch has begun
abbrev HasBegun : Made → History → Begun Fetching → Type 0
HasBegun made h f = FetchBegan made h f.at f.pass f.number f.what

-- what is kept was fetched
abbrev WasFetched : Made → History → Kept → Type 0
WasFetched made h k = Fetched made h k.fetch (record { key = k.key; ccid = k.ccid }) k.kind k.body

pub record FetchLaw (made : Made) (h : History) : Type 0 where
  pub entries : (world_of made h).entries ≡ length h
  pub opened : All (HasBegun made h) (world_of made h).delivering.fetches
  pub kept : All (WasFetched made h) (world_of made h).delivering.kept

-- this start is not after the position, or does not hit it
abbrev Unhit : ℕ → Fetching → Start → Type 0
Unhit at what start = at < start.at → Hits start.selection what.key what.ccid → ⊥

pub misses : (selection : Selection) (key : KeyParts) (ccid : Option (List ℕ)) → hits selection key ccid ≡ false → Hits selection key ccid → ⊥
misses selection key ccid fails is = both_ways _ fails ((hits_decides selection key ccid).1 is)

module _ (made : Made) (h : History) (e : Entry) where
  abbrev w : World
  w = world_of made h

  abbrev h' : History
  h' = h ++ e ∷ []

  pub starts_push : (world_of made h').delivering.starts ≡ w.delivering.starts ++ new_starts w e (reply_to made h e)
  starts_push = ap (λ (v : World). v.delivering.starts) (world_push made h e) ∙ starts_grow w e

  began_longer : {at pass fetch : ℕ} {what : Fetching} → FetchBegan made h at pass fetch what → FetchBegan made h' at pass fetch what
  began_longer b = record { event = b.event; answer = b.answer; answered = longer e b.answered; number = b.number; target = b.target; targeted = b.targeted; key = b.key; ccid = b.ccid }

  brought_longer : {at pass fetch : ℕ} {kind body : List ℕ} → FetchBrought made h at pass fetch kind body → FetchBrought made h' at pass fetch kind body
  brought_longer b = record { got = b.got; moment = b.moment; answered = longer e b.answered; was_open = b.was_open; status = b.status; kind_is = b.kind_is; body_is = b.body_is }

  unhit_longer : (at : ℕ) (what : Fetching) → NoStartHits made h at what → All (λ (s : Start). hits s.selection what.key what.ccid ≡ false) (new_starts w e (reply_to made h e)) → NoStartHits made h' at what
  unhit_longer at what old new = All-same (Unhit at what) _ _ starts_push
      (All-append (Unhit at what) w.delivering.starts (new_starts w e (reply_to made h e)) old (All-weaker (λ (s : Start). hits s.selection what.key what.ccid ≡ false) (Unhit at what) (λ s free since. misses s.selection what.key what.ccid free) _ new))

  begins : (law : FetchLaw made h) (fetch : ℕ) (target : Target) → begun_fetch (reply_to made h e) ≡ Some fetch → fetched_target e.1 (reply_to made h e) ≡ Some target → HasBegun made h' (begun_by w e fetch target)
  begins law fetch target number targeted = record {
    event = e.1;
    answer = reply_to made h e;
    answered = record { before = h; since = []; whole = refl; place = ap (λ n. n + 1) law.entries; answered = refl };
    number = number;
    target = target;
    targeted = targeted;
    key = refl;
    ccid = refl;
  }

  stays : (k : Kept) → WasFetched made h k → All (λ (s : Start). hits s.selection k.key k.ccid ≡ false) (new_starts w e (reply_to made h e)) → WasFetched made h' k
  stays k f new = record {
    pass = f.pass;
    began = f.began;
    ended = f.ended;
    in_order = f.in_order;
    begun = began_longer f.begun;
    brought = brought_longer f.brought;
    unhit = unhit_longer f.began (record { key = k.key; ccid = k.ccid }) f.unhit new;
  }

  -- no start since the position hits it
  pub not_since : (at : ℕ) (what : Fetching) (starts : List Start) → is_hit_since starts at what.key what.ccid ≡ false → All (Unhit at what) starts
  not_since at what starts is = All-weaker (λ (s : Start). (nat_lt at s.at && hits s.selection what.key what.ccid) ≡ false) (Unhit at what) (λ s no since. elim (and_cases (nat_lt at s.at) (hits s.selection what.key what.ccid) no) [
    | inl early ↦ absurd (both_ways _ early (lt-ltb at s.at since))
    | inr free ↦ misses s.selection what.key what.ccid free
  ]) starts (no_any _ starts is)

  gains : (law : FetchLaw made h) (k : Kept) → GainedBy w e (reply_to made h e) k → WasFetched made h' k
  gains law k g =
      let b : Begun Fetching = g.gained.begun in
      let found = found_is (HasBegun made h) (is_open g.fetch e.0) w.delivering.fetches b law.opened g.gained.is in
      let same = and_parts (b.number == g.fetch) (b.pass == e.0) found.1 in
      let number : b.number ≡ g.fetch = eqb-true b.number g.fetch same.0 in
      let event : e.1 ≡ FetchEnd b.number (outcome.Got g.gained.got) g.moment =
      g.event ∙ ap (λ f. FetchEnd f g.ends g.moment) (sym number) ∙ ap (λ o. FetchEnd b.number o g.moment) g.gained.ended in
      subst (WasFetched made h') (sym g.gained.this) (record {
        pass = e.0;
        began = b.at;
        ended = length h + 1;
        in_order = omega (arith, within found.0.answered);
        begun = began_longer (subst (λ p. FetchBegan made h b.at p b.number b.what) (eqb-true b.pass e.0 same.1) found.0);
        brought = record {
          got = g.gained.got;
          moment = g.moment;
          answered = record {
            before = h;
            since = [];
            whole = ap (λ (v : Event). h ++ (e.0, v) ∷ []) event;
            place = refl;
            answered = ap (λ (v : Event). reply_to made h (e.0, v)) (sym event) ∙ g.answer;
          };
          was_open = subst (λ n. IsTrue (list_any (is_open n e.0) w.delivering.fetches)) (sym number) (found_any (is_open g.fetch e.0) w.delivering.fetches b g.gained.is);
          status = g.gained.status;
          kind_is = refl;
          body_is = refl;
        };
        unhit = unhit_longer b.at b.what (not_since b.at b.what w.delivering.starts g.gained.unhit) (All-same (λ (s : Start). hits s.selection b.what.key b.what.ccid ≡ false) _ _ g.quiet (All-nil (λ (s : Start). hits s.selection b.what.key b.what.ccid ≡ false)));
      })

  pub law_push : FetchLaw made h → FetchLaw made h'
  law_push law = record {
    entries = ap (λ (v : World). v.entries) (world_push made h e) ∙ entries_are w e ∙ ap (λ n. n + 1) law.entries ∙ sym (length_push h e);
    opened = subst (λ (v : World). All (HasBegun made h') v.delivering.fetches) (sym (world_push made h e))
        (each_fetch w (HasBegun made h') (All-weaker (HasBegun made h) (HasBegun made h') (λ f begun. began_longer begun) w.delivering.fetches law.opened) e (begins law));
    kept = subst (λ (v : World). All (WasFetched made h') v.delivering.kept) (sym (world_push made h e))
        (each_kept w (WasFetched made h) (WasFetched made h') law.kept e stays (gains law));
  }

law_none : (made : Made) → FetchLaw made []
law_none made = record {
  entries = ap (λ (v : World). v.entries) (world_none made);
  opened = subst (λ (v : World). All (HasBegun made []) v.delivering.fetches) (sym (world_none made)) (All-nil _);
  kept = subst (λ (v : World). All (WasFetched made []) v.delivering.kept) (sym (world_none made)) (All-nil _);
}

pub fetch_law : (made : Made) (h : History) → FetchLaw made h
fetch_law made = from_right (FetchLaw made) (law_none made) (law_push made)

-- ---- hits

abbrev hit_fetch : Reply → Option ℕ
hit_fetch (reply.Hit delivery fetch kind body) = Some fetch
hit_fetch r = None

abbrev hit_kind : Reply → List ℕ
hit_kind (reply.Hit delivery fetch kind body) = kind
hit_kind r = []

abbrev hit_body : Reply → List ℕ
hit_body (reply.Hit delivery fetch kind body) = body
hit_body r = []

hit_of : (made : Made) (h : History) (target : Target) (kept : Kept) → kept_of (key_at (index_after made h) target) (world_of made h).delivering.kept ≡ Some kept → IsOfOneFetch made h target kept.fetch kept.kind kept.body
hit_of made h target kept is =
    let found = found_is (WasFetched made h) (is_of (key_at (index_after made h) target)) (world_of made h).delivering.kept kept (fetch_law made h).kept is in record {
      what = record { key = kept.key; ccid = kept.ccid };
      fetched = found.0;
      key = sym ((key_decides (key_at (index_after made h) target) kept.key).0 found.1);
      untaken = untaken made h found.0.began (λ selection. Hits selection kept.key kept.ccid) found.0.unhit;
    }

pub hit_law : (made : Made) (h : History) (pass : ℕ) (request : Request) (moment delivery fetch : ℕ) (kind body : List ℕ)
    → reply_to made h (pass, Admit request moment) ≡ reply.Hit delivery fetch kind body → IsOfOneFetch made h request.asked.target fetch kind body
hit_law made h pass request moment delivery fetch kind body = admit_cases (world_of made h) pass request moment
    (λ r. r ≡ reply.Hit delivery fetch kind body → IsOfOneFetch made h request.asked.target fetch kind body)
    (λ n is. absurd (none-some fetch (ap hit_fetch is)))
    (λ rule is. absurd (none-some fetch (ap hit_fetch is)))
    (λ kept found is.
    subst (λ f. IsOfOneFetch made h request.asked.target f kind body) (same_Some kept.fetch fetch (ap hit_fetch is))
    (subst (λ k. IsOfOneFetch made h request.asked.target kept.fetch k body) (ap hit_kind is)
    (subst (λ b. IsOfOneFetch made h request.asked.target kept.fetch kept.kind b) (ap hit_body is) (hit_of made h request.asked.target kept found))))
    (λ none is. absurd (none-some fetch (ap hit_fetch is)))

-- ---- misses

abbrev miss_fetch : Reply → Option ℕ
miss_fetch (reply.Miss delivery fetch plan) = Some fetch
miss_fetch r = None

abbrev miss_plan : Reply → List Endpoint
miss_plan (reply.Miss delivery fetch plan) = plan
miss_plan r = []

miss_parts : (w : World) (pass : ℕ) (request : Request) (moment delivery fetch : ℕ) (plan : List Endpoint)
    → reply_in w (pass, Admit request moment) ≡ reply.Miss delivery fetch plan
    → (plan ≡ plan_at (index_of w.delivering) request.asked.target) × (kept_of (key_at (index_of w.delivering) request.asked.target) w.delivering.kept ≡ None)
miss_parts w pass request moment delivery fetch plan = admit_cases w pass request moment
    (λ r. r ≡ reply.Miss delivery fetch plan → (plan ≡ plan_at (index_of w.delivering) request.asked.target) × (kept_of (key_at (index_of w.delivering) request.asked.target) w.delivering.kept ≡ None))
    (λ n is. absurd (none-some fetch (ap miss_fetch is)))
    (λ rule is. absurd (none-some fetch (ap miss_fetch is)))
    (λ kept found is. absurd (none-some fetch (ap miss_fetch is)))
    (λ none is. (sym (ap miss_plan is), none))

pub miss_law : (made : Made) (h : History) (pass : ℕ) (request : Request) (moment delivery fetch : ℕ) (plan : List Endpoint)
    → reply_to made h (pass, Admit request moment) ≡ reply.Miss delivery fetch plan → BeginsItsFetch made h (pass, Admit request moment) request.asked.target fetch plan
miss_law made h pass request moment delivery fetch plan is =
    let e : Entry = (pass, Admit request moment) in
    let v : World = world_of made h in
    let key : KeyParts = key_at (index_of v.delivering) request.asked.target in
    let parts = miss_parts v pass request moment delivery fetch plan is in
    record {
      what = fetching v request.asked.target;
      key = refl;
      ccid = refl;
      begun = record {
        event = Admit request moment;
        answer = reply.Miss delivery fetch plan;
        answered = record { before = h; since = []; whole = refl; place = refl; answered = is };
        number = refl;
        target = request.asked.target;
        targeted = refl;
        key = refl;
        ccid = refl;
      };
      opened = ap (λ (x : World). x.delivering.fetches) (world_push made h e) ∙ fetches_are v e ∙ ap (fetches_after v e) is
          ∙ ap (λ (n : ℕ). v.delivering.fetches ++ record { number = fetch; pass = pass; at = n + 1; what = fetching v request.asked.target } ∷ []) (fetch_law made h).entries;
      sources = parts.0;
      none_kept = All-weaker (λ (k : Kept). is_of key k ≡ false) (λ (k : Kept). k.key ≡ key → ⊥) (λ k other same. both_ways _ other ((key_decides key k.key).1 (sym same))) v.delivering.kept (none_found (is_of key) v.delivering.kept parts.1);
    }
