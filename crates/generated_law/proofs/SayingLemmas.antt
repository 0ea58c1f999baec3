-- What each line of a generated script says.
use Rattle.std.proofs.Common.{◌≡◌, ◌≢◌, ℕ, zero, suc, ◌+◌, ◌%◌, ◌<◌, ◌≤◌, ◌==◌, ◌&&◌, ◌^◌, Bool, true, false, not, List, [], ◌∷◌, ◌++◌, length, None, Some, Ok, Err, inl, inr, sym, ◌∙◌, ap, subst, refl, arith, append-nil, length-append, IsTrue, lit≤, lit<, codes, decimal}
use Rattle.std.proofs.lemmas.Bool.{and_parts, ne_eqb}
use Rattle.std.proofs.lemmas.Bool.Decides.{eqb_tells}
use Rattle.std.proofs.lemmas.Fmt.{decimal_by_steps, length-decimal-le}
use Rattle.std.proofs.lemmas.List.Folds.{list_all-append}
use Rattle.std.specs.List.{list_all, concat}
use Rattle.std.specs.Fmt.{digits}
use Rattle.hex.specs.Hex.{decode_pairs}
use Rattle.targets.specs.Grammar.{is_path_byte, AreCharacters, IsRow, IsTarget}
use Rattle.targets.specs.declared.endpoint.Endpoint.{Endpoint}
use Rattle.targets.specs.declared.target.Protocol.TheVariants.{Http}
use Rattle.targets.specs.declared.target.Target.{Target}
use Rattle.location_acl.specs.declared.ip.Ip.TheVariants.{V4}
use Rattle.cdni_base.specs.Key.{key_of}
use Rattle.cdni_base.specs.declared.key.Ignored.TheVariants as ignored
use Rattle.metadata_objects.specs.Host.{host_index_of_text}
use Rattle.history.specs.Event.{request_of, RefreshBegin, Admit, FetchEnd, Finish, Cut, DropLog, Advance, Delete}
use Rattle.upstream_gate.specs.declared.outcome.Outcome.TheVariants as outcome
use Rattle.trigger_command.specs.Reading.{Judged, command_of}
use Rattle.trigger_command.specs.declared.command.Command as trigger_command
use Rattle.script_line.specs.Line.{Noted, Calls, Refuses}
use Rattle.script_line.specs.Own.{own_id, control_host}
use Rattle.script_line.specs.Grammar.{SaysCall, plain, refreshed, commands, is_method}
use Rattle.script_line.specs.declared.grammar.TheConstants.{SPACE}
use Rattle.script_line.specs.declared.answer.TheConstants.{LINE_FEED}
use Rattle.generated_law.specs.Law.{LacksByte, IsScriptLine}

-- ---- bytes

both : (x y : Bool) → x ≡ true → y ≡ true → (x && y) ≡ true
both x y p q = rw (p, q) refl

pub lacks_append : (byte : ℕ) (a b : List ℕ) → LacksByte byte a → LacksByte byte b → LacksByte byte (a ++ b)
lacks_append byte a b p q = list_all-append (λ other. not (other == byte)) a b ∙ both _ _ p q

lacks_digit : (byte n : ℕ) → byte < 48 → LacksByte byte ((48 + n) ∷ [])
lacks_digit byte n small = let other : ((48 + n) == byte) ≡ false = ne_eqb (48 + n) byte (omega (arith, small)) in rw other refl

pub lacks_decimal : (byte n : ℕ) → byte < 48 → n < 2 ^ 64 → LacksByte byte (decimal n)
lacks_decimal byte n small fits =
    decimal_by_steps (λ (k : ℕ) (ds : List ℕ). LacksByte byte ds) (λ k one. lacks_digit byte k small)
    (λ k ds ten before. lacks_append byte ds ((48 + k % 10) ∷ []) before (lacks_digit byte (k % 10) small)) n fits

pub decimal_short : (n : ℕ) → n < 2 ^ 64 → length (decimal n) ≤ 20
decimal_short n fits = length-decimal-le 20 n (lit< tt) (omega (arith, fits)) fits

-- ---- URLs

single : ℕ → List ℕ
single = λ byte. byte ∷ []

singles : List ℕ → List (List ℕ)
unfolding single
singles [] = []
singles (byte ∷ bytes) = single byte ∷ singles bytes

singles_joined : (text : List ℕ) → text ≡ concat (singles text)
unfolding singles single
singles_joined [] = refl
singles_joined (byte ∷ bytes) = ap (λ (l : List ℕ). byte ∷ l) (singles_joined bytes)

singles_are : (text : List ℕ) → IsTrue (list_all is_path_byte text) → AreCharacters is_path_byte (singles text)
unfolding singles single
singles_are [] each = tt
singles_are (byte ∷ bytes) each =
    let p = and_parts (is_path_byte byte) (list_all is_path_byte bytes) each in
    (inl (byte, refl, p.0), singles_are bytes p.1)

row_of : (text : List ℕ) → IsTrue (list_all is_path_byte text) → IsRow is_path_byte text
row_of text each = (singles text, singles_joined text, singles_are text each)

-- the target of this path of the host
abbrev pub target_at : List ℕ → List ℕ → Target
target_at host path = record { host = host; port = 80; path = path; query = None }

endpoint_at : List ℕ → Endpoint
endpoint_at = λ host. record { host = host; port = None }

pub is_target : (rest : List ℕ) → IsTrue (list_all is_path_byte rest) → length rest ≤ 400 → IsTarget (codes "http://v.example/" ++ rest) None false (target_at (codes "v.example") (47 ∷ rest))
unfolding endpoint_at
is_target rest each short = (
  omega (arith, short),
  inl (
    codes "http://",
    codes "v.example",
    47 ∷ rest,
    Http,
    endpoint_at (codes "v.example"),
    refl,
    refl,
    (codes "v.example", [], refl, inl (lit≤ tt, lit≤ tt, refl), refl, inl refl),
    (refl, refl),
    inl (sym (append-nil (47 ∷ rest)), (rest, refl, row_of rest each), tt),
  ),
)

all_below : ℕ → (ℕ → Bool) → Bool
all_below zero test = true
all_below (suc n) test = test n && all_below n test

each_below : (n : ℕ) (test : ℕ → Bool) → IsTrue (all_below n test) → (k : ℕ) → k < n → IsTrue (test k)
unfolding all_below
each_below zero test all k lt = absurd (omega (arith, lt))
each_below (suc n) test all k lt =
    let p = and_parts (test n) (all_below n test) all in
    elim (eqb_tells k n) [ inl e ↦ subst (λ (m : ℕ). IsTrue (test m)) (sym e.1) p.0 | inr e ↦ each_below n test p.1 k (omega (arith, lt, e.1)) ]

path_bytes : (path : ℕ) → path < 50 → IsTrue (list_all is_path_byte (codes "o/" ++ decimal path))
unfolding all_below digits
path_bytes path lt = each_below 50 (λ k. list_all is_path_byte (codes "o/" ++ decimal k)) refl path lt

get_token : IsTrue (is_method (codes "GET"))
unfolding is_method
get_token = refl

sixty_one : codes "61" ≢ codes "-"
sixty_one e = let l : 2 ≡ 1 = ap length e in omega (arith, l)

up_target : IsTarget (codes "http://up.example/i") None false (target_at (codes "up.example") (codes "/i"))
unfolding endpoint_at
up_target = (
  lit≤ tt,
  inl (
    codes "http://",
    codes "up.example",
    codes "/i",
    Http,
    endpoint_at (codes "up.example"),
    refl,
    refl,
    (codes "up.example", [], refl, inl (lit≤ tt, lit≤ tt, refl), refl, inl refl),
    (refl, refl),
    inl (refl, (codes "i", refl, row_of (codes "i") refl), tt),
  ),
)

tail_length : (moment call : List ℕ) → length (32 ∷ (moment ++ 32 ∷ call)) ≡ length moment + (length call + 1) + 1
tail_length moment call = let l : length (moment ++ 32 ∷ call) ≡ length moment + length (32 ∷ call) = length-append moment (32 ∷ call) in omega (arith, l)

-- ---- lines

-- a call of a moment, which a line may hold
pub record IsCall (moment : ℕ) (call : List ℕ) : Type 0 where
  pub noted : Noted
  pub says : SaysCall moment call noted
  pub clean : LacksByte LINE_FEED call
  pub short : length call ≤ 400

-- the line of a pass and a moment, without its line feed
abbrev pub line_body : ℕ → ℕ → List ℕ → List ℕ
line_body pass moment call = decimal pass ++ 32 ∷ (decimal moment ++ 32 ∷ call)

body_clean : (pass moment : ℕ) (call : List ℕ) → pass < 2 ^ 32 → moment < 2 ^ 64 → LacksByte LINE_FEED call → LacksByte LINE_FEED (line_body pass moment call)
body_clean pass moment call small fits clean =
    lacks_append LINE_FEED (decimal pass) (32 ∷ (decimal moment ++ 32 ∷ call)) (lacks_decimal LINE_FEED pass (lit< tt) (omega arith))
    (lacks_append LINE_FEED (decimal moment) (32 ∷ call) (lacks_decimal LINE_FEED moment (lit< tt) fits) clean)

body_short : (pass moment : ℕ) (call : List ℕ) → pass < 2 ^ 32 → moment < 2 ^ 64 → length call ≤ 400 → length (line_body pass moment call) < 512
body_short pass moment call small fits short =
    let whole : length (line_body pass moment call) ≡ length (decimal pass) + (length (decimal moment) + (length call + 1) + 1) =
    length-append (decimal pass) (32 ∷ (decimal moment ++ 32 ∷ call)) ∙ ap (λ (n : ℕ). length (decimal pass) + n) (tail_length (decimal moment) call) in
    omega (arith, whole, decimal_short pass (omega arith), decimal_short moment fits, short)

pub line_of_call : (pass moment : ℕ) (call : List ℕ) → pass < 2 ^ 32 → moment < 2 ^ 64 → IsCall moment call → IsScriptLine false (line_body pass moment call)
line_of_call pass moment call small fits c = record {
  said = Calls (pass, c.noted);
  says = record {
    pass = decimal pass;
    moment = decimal moment;
    call = call;
    at = moment;
    words = (decimal moment ++ 32 ∷ call, refl, lacks_decimal SPACE pass (lit< tt) (omega arith), (call, refl, lacks_decimal SPACE moment (lit< tt) fits, refl));
    numbered = (refl, omega arith);
    small = small;
    timed = (refl, fits);
    called = c.says;
  };
  stands = tt;
  clean = body_clean pass moment call small fits c.clean;
  short = body_short pass moment call small fits c.short;
}

-- ---- calls

-- get
pub get_call : (moment path : ℕ) → path < 50 → IsCall moment (codes "get GET http/1.1 192.0.2.7 as64496 us http://v.example/o/" ++ decimal path)
unfolding digits
get_call moment path lt = record {
  noted = plain (Admit (request_of (record { method = codes "GET"; protocol = Http; target = target_at (codes "v.example") (codes "/o/" ++ decimal path) })
      (record { ip = V4 3221225991; asn = Some 64496; country = Some (117, 115) }) []) moment);
  says = inr (inl (record {
    method = codes "GET";
    protocol = codes "http/1.1";
    address = codes "192.0.2.7";
    network = codes "as64496";
    country = codes "us";
    url = codes "http://v.example/o/" ++ decimal path;
    asked = record { method = codes "GET"; protocol = Http; target = target_at (codes "v.example") (codes "/o/" ++ decimal path) };
    place = record { ip = V4 3221225991; asn = Some 64496; country = Some (117, 115) };
    words = (_, refl, refl, (_, refl, refl, (_, refl, refl, (_, refl, refl, (_, refl, refl, (_, refl, refl, refl))))));
    asks = record { token = get_token; same = refl; spoken = refl; target = is_target (codes "o/" ++ decimal path) (path_bytes path lt) (omega (arith, decimal_short path (omega (arith, lt)))) };
    placed = record {
      ip = record { a = 192; b = 0; c = 2; d = 7; a_fits = lit< tt; b_fits = lit< tt; c_fits = lit< tt; d_fits = lit< tt; written = refl; valued = refl };
      asn = (lit≤ tt, refl);
      letters = (refl, (lit≤ tt, lit≤ tt), (lit≤ tt, lit≤ tt));
    };
    call = refl;
  }));
  clean = lacks_decimal LINE_FEED path (lit< tt) (omega (arith, lt));
  short = omega (arith, decimal_short path (omega (arith, lt)));
}

-- got
pub got_call : (moment fetch : ℕ) → fetch < 2 ^ 64 → IsCall moment (codes "got " ++ decimal fetch ++ codes " 200 - 61")
unfolding digits decode_pairs
got_call moment fetch fits = record {
  noted = plain (FetchEnd fetch (outcome.Got (record { status = 200; kind = []; body = 97 ∷ [] })) moment);
  says = inr (inr (inl (record {
    number = decimal fetch;
    status = codes "200";
    kind = codes "-";
    hex = codes "61";
    fetch = fetch;
    got = record { status = 200; kind = []; body = 97 ∷ [] };
    words = (_, refl, refl, (_, refl, lacks_decimal SPACE fetch (lit< tt) fits, (_, refl, refl, (_, refl, refl, refl))));
    numbered = (refl, fits);
    coded = (refl, lit< tt);
    named = inl (refl, refl);
    filled = inr (sixty_one, lit< tt, refl);
    given = (refl, lit≤ tt);
    call = refl;
  })));
  clean = lacks_append LINE_FEED (decimal fetch) (codes " 200 - 61") (lacks_decimal LINE_FEED fetch (lit< tt) fits) refl;
  short = let l : length (decimal fetch ++ codes " 200 - 61") ≡ length (decimal fetch) + 9 = length-append (decimal fetch) (codes " 200 - 61") in omega (arith, l, decimal_short fetch fits);
}

-- finish
pub finish_call : (moment delivery : ℕ) → delivery < 2 ^ 64 → IsCall moment (codes "finish " ++ decimal delivery ++ codes " 200 1 1")
unfolding digits
finish_call moment delivery fits = record {
  noted = plain (Finish delivery 200 1 1 moment);
  says = inr (inr (inr (inr (inr (inl (record {
    number = decimal delivery;
    status = codes "200";
    total = codes "1";
    entity = codes "1";
    delivery = delivery;
    code = 200;
    sent = 1;
    content = 1;
    words = (_, refl, refl, (_, refl, lacks_decimal SPACE delivery (lit< tt) fits, (_, refl, refl, (_, refl, refl, refl))));
    numbered = (refl, fits);
    coded = (refl, lit< tt);
    ranged = (lit≤ tt, lit≤ tt);
    whole = (refl, lit< tt);
    part = (refl, lit< tt);
    call = refl;
  }))))));
  clean = lacks_append LINE_FEED (decimal delivery) (codes " 200 1 1") (lacks_decimal LINE_FEED delivery (lit< tt) fits) refl;
  short = let l : length (decimal delivery ++ codes " 200 1 1") ≡ length (decimal delivery) + 8 = length-append (decimal delivery) (codes " 200 1 1") in omega (arith, l, decimal_short delivery fits);
}

-- advance, delete and droplog
pub advance_call : (moment trigger : ℕ) → trigger < 2 ^ 64 → IsCall moment (codes "advance " ++ decimal trigger)
advance_call moment trigger fits = record {
  noted = plain (Advance trigger moment);
  says = inr (inr (inr (inr (inr (inr (inr (inr (inr (inr (inl (record { digits = decimal trigger; number = trigger; words = (_, refl, refl, refl); numbered = (refl, fits); call = refl })))))))))));
  clean = lacks_decimal LINE_FEED trigger (lit< tt) fits;
  short = omega (arith, decimal_short trigger fits);
}

pub delete_call : (moment trigger : ℕ) → trigger < 2 ^ 64 → IsCall moment (codes "delete " ++ decimal trigger)
delete_call moment trigger fits = record {
  noted = plain (Delete trigger);
  says = inr (inr (inr (inr (inr (inr (inr (inr (inr (inr (inr (inr (inl (record { digits = decimal trigger; number = trigger; words = (_, refl, refl, refl); numbered = (refl, fits); call = refl })))))))))))));
  clean = lacks_decimal LINE_FEED trigger (lit< tt) fits;
  short = omega (arith, decimal_short trigger fits);
}

pub droplog_call : (moment file : ℕ) → file < 2 ^ 64 → IsCall moment (codes "droplog " ++ decimal file)
droplog_call moment file fits = record {
  noted = plain (DropLog file);
  says = inr (inr (inr (inr (inr (inr (inr (inr (inr (inl (record { digits = decimal file; number = file; words = (_, refl, refl, refl); numbered = (refl, fits); call = refl }))))))))));
  clean = lacks_decimal LINE_FEED file (lit< tt) fits;
  short = omega (arith, decimal_short file fits);
}

-- cut and refresh
pub cut_call : (moment : ℕ) → IsCall moment (codes "cut")
cut_call moment = record { noted = plain (Cut moment); says = inl (inr (inl (refl, refl))); clean = refl; short = lit≤ tt }

pub refresh_call : (moment : ℕ) → IsCall moment (codes "refresh")
refresh_call moment = record { noted = plain (RefreshBegin moment); says = inl (inl (refl, refl)); clean = refl; short = lit≤ tt }

-- meta
pub meta_call : (json : List ℕ) → LacksByte LINE_FEED json → length json ≤ 300 → IsCall 1000 (codes "meta 1 http://up.example/i " ++ json)
unfolding digits
meta_call json clean short = record {
  noted = refreshed 1 1000 (key_of (target_at (codes "up.example") (codes "/i")) ignored.None ∷ []) (host_index_of_text json);
  says = inr (inr (inr (inl (record {
    number = codes "1";
    urls = codes "http://up.example/i";
    json = json;
    refresh = 1;
    keys = key_of (target_at (codes "up.example") (codes "/i")) ignored.None ∷ [];
    words = (_, refl, refl, (_, refl, refl, (_, refl, refl, refl)));
    numbered = (refl, lit< tt);
    joined = ((target_at (codes "up.example") (codes "/i"), up_target, refl), tt);
    call = refl;
  }))));
  clean = clean;
  short = omega (arith, short);
}

-- a command, which is read or refused
command_line : (pass moment : ℕ) (json : List ℕ) (judged : Judged trigger_command.Command) → command_of own_id control_host json ≡ judged → pass < 2 ^ 32 → moment < 2 ^ 64 → LacksByte LINE_FEED json → length json ≤ 300
    → IsScriptLine false (line_body pass moment (codes "command " ++ json))
command_line pass moment json (Ok command) is small fits clean short =
    line_of_call pass moment (codes "command " ++ json) small fits (record {
      noted = plain (commands moment command.act);
      says = inr (inr (inr (inr (inl (record { json = json; command = command; words = (_, refl, refl, refl); reads = is; call = refl })))));
      clean = clean;
      short = omega (arith, short);
    })
command_line pass moment json (Err fault) is small fits clean short =
    let call = codes "command " ++ json in
    record {
      said = Refuses fault;
      says = record {
        pass = decimal pass;
        moment = decimal moment;
        command = call;
        number = pass;
        at = moment;
        words = (decimal moment ++ 32 ∷ call, refl, lacks_decimal SPACE pass (lit< tt) (omega arith), (call, refl, lacks_decimal SPACE moment (lit< tt) fits, refl));
        numbered = (refl, omega arith);
        small = small;
        timed = (refl, fits);
        refused = record { json = json; words = (_, refl, refl, refl); fails = is };
      };
      stands = tt;
      clean = body_clean pass moment call small fits clean;
      short = body_short pass moment call small fits (omega (arith, short));
    }

pub line_of_command : (pass moment : ℕ) (json : List ℕ) → pass < 2 ^ 32 → moment < 2 ^ 64 → LacksByte LINE_FEED json → length json ≤ 300 → IsScriptLine false (line_body pass moment (codes "command " ++ json))
line_of_command pass moment json = command_line pass moment json _ refl
