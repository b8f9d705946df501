-- What stands in an answer that is taken.
use Rattle.std.proofs.Common.{arith, ◌≡◌, ℕ, zero, suc, ◌+◌, ◌<◌, ◌==◌, cond, Bool, true, false, ◌||◌, List, [], ◌∷◌, ◌++◌, length, map, take, drop, set, codes, nat_lt, count_by, Option, Some, None, Result, Ok, Err, refl, sym, ap, ◌∙◌, subst, ⊎_elim, eq-eqb, append_assoc}
use Rattle.std.proofs.lemmas.Bool.{cases_eq, eqb-true, ne_eqb}
use Rattle.std.proofs.lemmas.List.{get_or-set_other, take-append-drop}
use Rattle.std.proofs.lemmas.List.Sums.{sum_by-cons}
use Rattle.std.proofs.lemmas.Option.{none-some, same_Some}
use Rattle.std.proofs.lemmas.Slice.Eq.{bytes_eq-Decides}
use Rattle.bf_oid.specs.declared.object.Oid.{Oid}
use Rattle.bf_reading.specs.Reading.{behind}
use Rattle.bf_cert.specs.declared.cert.Cert.{Cert}
use Rattle.bf_cert.specs.Lines.{cert_lines, line_of, line_text, lines_of}
use Rattle.bf_cert.specs.Reading.{go_on, read_version}
use Rattle.bf_cert.proofs.Saying.{line_tells}
use Rattle.bf_cert.proofs.Telling.{IsTold}
use Rattle.bf_claims.specs.declared.head.Head.{Head}
use Rattle.bf_claims.specs.Goods.{strange}
use Rattle.bf_claims.specs.Heads.{judged, judged_goods, no_head, take_line}
use Rattle.bf_claims.specs.Kinds.{is_last, is_text}
use Rattle.bf_claims.specs.Reading.{beside, read_behind, read_either, read_file, read_head, read_summed}
use Rattle.bf_claims.specs.Standing.{IsAnswer, claims_bad, claims_good}
use Rattle.bf_claims.specs.Sums.{is_sum, sum_line}
use Rattle.bf_claims.proofs.Claimed.{IsClaimed, line_claimed, line_taken, nothing_claimed}
use Rattle.bf_claims.proofs.Holding.{by_judge, file_holds, lines_told}
use Rattle.bf_search.specs.Bases.{has_place}
use Rattle.bf_search.specs.Candidates.{is_in}
use Rattle.bf_search.proofs.RowLemmas.{is_in-lt}

-- ---- the good commits

no_true : (row : List Bool) (p : ℕ) → count_by (λ value. value) row ≡ 0 → is_in row p ≡ false
no_true [] p none = refl
no_true (true ∷ row) p none =
    let one : 0 ≡ 1 + count_by (λ value. value) row = sym none ∙ sum_by-cons (λ (value : Bool). cond value 1 0) true row in
    absurd (omega (arith, one))
no_true (false ∷ row) zero none = refl
no_true (false ∷ row) (suc p) none = no_true row p none

none_left : (b : Bool) (n : ℕ) → cond b None (Some n) ≡ None → b ≡ true
none_left true n h = refl
none_left false n h = absurd (none-some n (sym h))

none_here : (b : Bool) (rest : Option ℕ) (n : ℕ) → cond b rest (Some n) ≡ None → (b ≡ true) × (rest ≡ None)
none_here true rest n h = (refl, h)
none_here false rest n h = absurd (none-some n (sym h))

-- where none is strange, those that are listed are those of the row
pub none_strange_tells : (row : List Bool) (n : ℕ) (ps : List ℕ) → strange row n ps ≡ None → (q : ℕ) → has_place ps q ≡ is_in row q
unfolding strange
none_strange_tells row n [] h q = sym (no_true row q (eqb-true (count_by (λ value. value) row) 0 (none_left (count_by (λ value. value) row == 0) n h)))
none_strange_tells row n (p ∷ ps) h q =
    let here = none_here (is_in row p) (strange (set row p false) (n + 1) ps) n h in
    ⊎_elim
    (λ e.
    ap (λ (b : Bool). b || has_place ps q) (eq-eqb p q (sym e))
    ∙ sym (subst (λ (x : ℕ). is_in row x ≡ true) (sym e) here.0))
    (λ other.
    ap (λ (b : Bool). b || has_place ps q) (ne_eqb p q (λ e. other (sym e)))
    ∙ none_strange_tells (set row p false) (n + 1) ps here.1 q
    ∙ get_or-set_other row p q false false other)
    (cases_eq q p)

-- ---- the certificate behind the head

-- what is claimed of a certificate's commits
record IsJudged (head : Head) (cert : Cert) : Type 0 where
  bad : is_in head.bad cert.bad ≡ true
  goods : strange head.good 0 cert.goods ≡ None

by_goods : (is_bad : Bool) (goods : Option ℕ) (before : ℕ) (cert found : Cert)
    → cond is_bad (judged_goods before cert goods) (Err (before + 2)) ≡ Ok found → (is_bad ≡ true) × (goods ≡ None)
by_goods false goods before cert found h = cc
by_goods true None before cert found h = (refl, refl)
by_goods true (Some index) before cert found h = cc

judged_tells : (head : Head) (before : ℕ) (cert found : Cert) → judged head before cert ≡ Ok found → IsJudged head cert
unfolding judged
judged_tells head before cert found h =
    let both = by_goods (is_in head.bad cert.bad) (strange head.good 0 cert.goods) before cert found h in
    record { bad = both.0; goods = both.1 }

-- texts that are understood, where each is written so
said_texts : {L : Type 0} (say : List ℕ → Option L) (write : L → List ℕ)
    → ((text : List ℕ) (line : L) → say text ≡ Some line → text ≡ write line)
    → (texts : List (List ℕ)) (lines : List L) → map say texts ≡ map Some lines → texts ≡ map write lines
said_texts say write tells [] [] h = refl
said_texts say write tells [] (line ∷ lines) h = cc
said_texts say write tells (text ∷ texts) [] h = cc
said_texts {L} say write tells (text ∷ texts) (line ∷ lines) h =
    let is : say text ≡ Some line = cc in
    let others : map say texts ≡ map Some lines = cc in
    ap (λ (t : List ℕ). t ∷ texts) (tells text line is)
    ∙ ap (λ (ts : List (List ℕ)). write line ∷ ts) (said_texts say write tells texts lines others)

-- ---- line by line

-- the lines of an answer, and what its head claims
record Stands (names : List Oid) (graph : List (List ℕ)) (texts : List (List ℕ)) (cert : Cert) : Type 0 where
  head : List (List ℕ)
  lines : texts ≡ head ++ map (line_text names) (cert_lines cert)
  bad : claims_bad names head cert.bad ≡ true
  goods : (p : ℕ) → p < length graph → has_place cert.goods p ≡ claims_good names head p

stands_by : (names : List Oid) (graph front texts : List (List ℕ)) (head : Head) (cert : Cert) → IsClaimed names (length graph) front head
    → IsTold names graph texts cert → IsJudged head cert → Stands names graph (front ++ texts) cert
stands_by names graph front texts head cert so told is = record {
  head = front;
  lines = ap (λ (ts : List (List ℕ)). front ++ ts) (said_texts (line_of names) (line_text names) (line_tells names) texts (cert_lines cert) told.said);
  bad = sym (so.bad cert.bad (subst (λ (n : ℕ). cert.bad < n) so.bad_len (is_in-lt head.bad cert.bad is.bad))) ∙ is.bad;
  goods = λ p l. none_strange_tells head.good 0 cert.goods is.goods p ∙ so.good p l;
}

by_read : (last : Bool) (names : List Oid) (graph front texts : List (List ℕ)) (head : Head) (before : ℕ) (read : Result Cert ℕ) (cert : Cert)
    → read_version names graph texts ≡ read → IsClaimed names (length graph) front head
    → cond last (beside head before read) (Err (before + 1)) ≡ Ok cert → Stands names graph (front ++ texts) cert
by_read false names graph front texts head before read cert is so h = cc
by_read true names graph front texts head before (Err line) cert is so h = cc
by_read true names graph front texts head before (Ok found) cert is so h =
    subst (λ (c : Cert). Stands names graph (front ++ texts) c) (by_judge head before found cert h)
    (stands_by names graph front texts head found so (lines_told names graph texts found is) (judged_tells head before found cert h))

behind_stands : (names : List Oid) (graph front : List (List ℕ)) (before : ℕ) (head : Head) (lines : List (List ℕ)) (cert : Cert)
    → IsClaimed names (length graph) front head → read_behind names graph before head lines ≡ Ok cert → Stands names graph (front ++ lines) cert
unfolding read_behind
behind_stands names graph front before head lines cert so h =
    by_read (is_last head.rank) names graph front lines head before (read_version names graph lines) cert refl so h

by_line : (starts : Bool) (taken : Option Head) (names : List Oid) (graph front : List (List ℕ)) (before : ℕ) (head : Head) (line : List ℕ)
    (lines : List (List ℕ)) (cert : Cert) → take_line names head line ≡ taken → IsClaimed names (length graph) front head
    → cond starts (read_behind names graph before head (line ∷ lines)) (go_on (before + 1) taken (λ next. read_head names graph (before + 1) next lines)) ≡ Ok cert
    → ((next : Head) → IsClaimed names (length graph) (front ++ line ∷ []) next → read_head names graph (before + 1) next lines ≡ Ok cert
    → Stands names graph ((front ++ line ∷ []) ++ lines) cert) → Stands names graph (front ++ line ∷ lines) cert
by_line true taken names graph front before head line lines cert is so h more = behind_stands names graph front before head (line ∷ lines) cert so h
by_line false None names graph front before head line lines cert is so h more = cc
by_line false (Some next) names graph front before head line lines cert is so h more =
    subst (λ (texts : List (List ℕ)). Stands names graph texts cert) (append_assoc front (line ∷ []) lines)
    (more next (line_claimed names (length graph) front line head next so (line_taken names head next line is)) h)

head_stands : (names : List Oid) (graph front : List (List ℕ)) (before : ℕ) (head : Head) (lines : List (List ℕ)) (cert : Cert)
    → IsClaimed names (length graph) front head → read_head names graph before head lines ≡ Ok cert → Stands names graph (front ++ lines) cert
unfolding read_head
head_stands names graph front before head [] cert so h = cc
head_stands names graph front before head (line ∷ lines) cert so h =
    by_line (is_text line (codes "certificate 1\n")) (take_line names head line) names graph front before head line lines cert refl so h
    (λ next claimed more. head_stands names graph (front ++ line ∷ []) (before + 1) next lines cert claimed more)

-- ---- from the first line on

by_sum : (short same : Bool) (read : Result Cert ℕ) (cert : Cert) → cond short (Err 2) (cond same read (Err 2)) ≡ Ok cert → (same ≡ true) × (read ≡ Ok cert)
by_sum true same read cert h = cc
by_sum false true read cert h = (refl, h)
by_sum false false read cert h = cc

summed_stands : (names : List Oid) (graph : List (List ℕ)) (text : List ℕ) (cert : Cert) → read_summed names graph text ≡ Ok cert
    → (text ≡ sum_line (drop 69 text) ++ drop 69 text) × Stands names graph (lines_of (drop 69 text)) cert
unfolding read_summed
summed_stands names graph text cert h =
    let both = by_sum (nat_lt (length text) 69) (is_sum (take 69 text) (drop 69 text))
    (read_head names graph 2 (no_head (length graph)) (lines_of (drop 69 text))) cert h in (
      sym (take-append-drop 69 text)
          ∙ ap (λ (sum : List ℕ). sum ++ drop 69 text) ((bytes_eq-Decides (take 69 text) (sum_line (drop 69 text))).0 both.0),
      head_stands names graph [] 2 (no_head (length graph)) (lines_of (drop 69 text)) cert (nothing_claimed names (length graph)) both.1,
    )

behind_bytes : (b : Bool) (found : Option (List ℕ)) (rest : List ℕ) → cond b found None ≡ Some rest → (b ≡ true) × (found ≡ Some rest)
behind_bytes true found rest h = (refl, h)
behind_bytes false found rest h = absurd (none-some rest h)

behind_tells : (word text rest : List ℕ) → behind word text ≡ Some rest → text ≡ word ++ rest
unfolding behind
behind_tells [] text rest h = same_Some text rest h
behind_tells (c ∷ cs) [] rest h = absurd (none-some rest h)
behind_tells (c ∷ cs) (b ∷ bs) rest h =
    let found = behind_bytes (c == b) (behind cs bs) rest h in
    ap (λ (x : ℕ). x ∷ bs) (sym (eqb-true c b found.0)) ∙ ap (λ (xs : List ℕ). c ∷ xs) (behind_tells cs bs rest found.1)

pub answer_stands : (names : List Oid) (graph : List (List ℕ)) (bytes text : List ℕ) (cert : Cert) → behind (codes "farmdawn-answer 1\n") bytes ≡ Some text
    → read_file names graph bytes ≡ Ok cert → IsAnswer names graph bytes cert
answer_stands names graph bytes text cert is h =
    let summed = summed_stands names graph text cert (ap (λ (answer : Option (List ℕ)). read_either names graph answer bytes) (sym is) ∙ h) in
    let stands = summed.1 in
    record {
      below = drop 69 text;
      text = behind_tells (codes "farmdawn-answer 1\n") bytes text is ∙ ap (λ (rest : List ℕ). codes "farmdawn-answer 1\n" ++ rest) summed.0;
      head = stands.head;
      lines = stands.lines;
      bad = stands.bad;
      goods = stands.goods;
      holds = file_holds names graph bytes cert h;
    }
