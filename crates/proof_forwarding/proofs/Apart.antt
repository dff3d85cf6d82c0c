-- Two histories of a forwarder whose events are alike.
use Rattle.std.proofs.Common.{◌≡◌, ℕ, List, [], ◌∷◌, ◌++◌, Option, Some, None, Bool, true, false, refl, sym, subst, ap, ◌∙◌}
use Rattle.std.specs.Prelude.{◌||◌, if◌then◌else◌}
use Rattle.client_request.specs.Request.{Request}
use Rattle.client_request.specs.declared.event.Event.{Event}
use Rattle.client_request.specs.declared.event.Moment.{Moment}
use Rattle.client_request.specs.declared.event.Row.{Row}
use Rattle.client_request.specs.declared.event.What.{What}
use Rattle.client_request.specs.declared.event.What.TheVariants.{Ask, Tick}
use Rattle.front_queries.specs.Answers.{turned_away}
use Rattle.front_queries.specs.Query.{Query, key_of}
use Rattle.front_queries.specs.Requests.{request_of}
use Rattle.front_queries.specs.declared.sorting.Sorted.{Sorted}
use Rattle.front_queries.specs.declared.sorting.Sorted.TheVariants as become
use Rattle.front_peers.specs.Items.{Streams, asker, at_moment, closes, is_stream, of_datagram, takes, takes_now}
use Rattle.front_peers.specs.declared.event.FrontEvent.{FrontEvent}
use Rattle.front_peers.specs.declared.event.FrontOut.{FrontOut}
use Rattle.front_peers.specs.declared.event.FrontOut.TheVariants.{Answer, Drop}
use Rattle.front_peers.specs.declared.event.FrontWhat.{FrontWhat}
use Rattle.front_peers.specs.declared.items.Asker.{Asker}
use Rattle.front_peers.specs.declared.items.Item.{Item}
use Rattle.front_peers.specs.declared.items.Item.TheVariants.{Asks, Refuses, Drops, Happens}
use Rattle.front_steps.specs.Steps as steps
use Rattle.front_steps.specs.Steps.{DidAskIf, DidItem, DidQuery, DidRow, DidTick, Doing, Leaves, Scene, Serves, Steps, TookIn, is_some_row, scene, with_streams, with_waits}
use Rattle.front_steps.specs.Waits.{asks_anew, away, has_room, joins_if, may_join, puts_all, same_asked, turned}
use Rattle.front_steps.specs.declared.putting.Desk.{Desk}
use Rattle.proof_forwarding.specs.Isolation.{AreAlike, AreOfPeer, AreOutsAlike, AreSame, IsEventAlike}
use Rattle.proof_forwarding.proofs.Alike.{AskersAlike, DeskAlike, Put, all_put, anew_alike, asker_itself, joins_alike, may_same, outs_more, room_same, same_same}

-- ---- the things that an event comes to, one behind another

module _ {C : Type 0} (how : Steps C) (serves : Serves C) (moment : Moment) where
  pub record ThenDone (item : Item) (old : Scene C) (rows : List Row) (Rest : Scene C → List Row → Type 0) : Type 0 where
    pub middle : Scene C
    pub now : List Row
    pub later : List Row
    pub did : DidItem how serves moment item old middle now
    pub rest : Rest middle later
    pub rows_are : rows ≡ now ++ later

  abbrev pub DoneAll : List Item → (old new : Scene C) → List Row → Type 0
  DoneAll [] old new rows = (new ≡ old) × (rows ≡ [])
  DoneAll (item ∷ items) old new rows = ThenDone item old rows (λ middle later. DoneAll items middle new later)

  list_assoc : (xs ys zs : List Row) → (xs ++ ys) ++ zs ≡ xs ++ (ys ++ zs)
  list_assoc [] ys zs = refl
  list_assoc (x ∷ xs) ys zs = ap (λ (all : List Row). x ∷ all) (list_assoc xs ys zs)

  append_nil : (xs : List Row) → xs ++ [] ≡ xs
  append_nil [] = refl
  append_nil (x ∷ xs) = ap (λ (all : List Row). x ∷ all) (append_nil xs)

  all_done : (items : List Item) (old : Scene C) (left : List Item) (new : Scene C) (rows : List Row) → Doing how serves moment items old left new rows
      → (last : Scene C) (more : List Row) → DoneAll left new last more → DoneAll items old last (rows ++ more)
  all_done items old left new rows steps.begins last more done = done
  all_done items old left new rows (steps.goes_on item after middle end before now_rows doing did) last more done =
      subst (DoneAll items old last) (sym (list_assoc before now_rows more))
      (all_done items old (item ∷ after) middle before doing last (now_rows ++ more) (record { middle = end; now = now_rows; later = more; did = did; rest = done; rows_are = refl }))

  pub done_so : (items : List Item) (old new : Scene C) (rows : List Row) → Doing how serves moment items old [] new rows → DoneAll items old new rows
  done_so items old new rows doing = subst (DoneAll items old new) (append_nil rows) (all_done items old [] new rows doing new [] (refl, refl))

-- ---- what is alike

module _ (x : ℕ) where
  abbrev pub ItemAlike : Item → Item → Type 0
  ItemAlike (Asks a) (Asks b) = AskersAlike x a b
  ItemAlike (Refuses p os) (Refuses q us) = (p ≡ q) × (os ≡ us)
  ItemAlike (Drops p) (Drops q) = p ≡ q
  ItemAlike (Happens w) (Happens v) = w ≡ v
  ItemAlike _ _ = ⊥

  abbrev pub ItemsAlike : List Item → List Item → Type 0
  ItemsAlike [] [] = Unit {0}
  ItemsAlike (i ∷ is) (j ∷ js) = ItemAlike i j × ItemsAlike is js
  ItemsAlike _ _ = ⊥

  item_itself : (i : Item) → ItemAlike i i
  item_itself (Asks a) = asker_itself x a
  item_itself (Refuses p os) = (refl, refl)
  item_itself (Drops p) = refl
  item_itself (Happens w) = refl

  items_itself : (is : List Item) → ItemsAlike is is
  items_itself [] = tt
  items_itself (i ∷ is) = (item_itself i, items_itself is)

  -- of each of two events
  pub record TakesAlike (one other : List Item × Streams) : Type 0 where
    pub items : ItemsAlike one.0 other.0
    pub streams : one.1 ≡ other.1

  taken_itself : (a b : List Item × Streams) → a ≡ b → TakesAlike a b
  taken_itself a b is = subst (TakesAlike a) is (record { items = items_itself a.0; streams = refl })

  datagram_alike : (a b : Asker) → AskersAlike x a b → (s : Streams) (c : Bool)
      → TakesAlike (if◌then◌else◌ {A = List Item × Streams} c ([], s) (Asks a ∷ [], s)) (if◌then◌else◌ {A = List Item × Streams} c ([], s) (Asks b ∷ [], s))
  datagram_alike a b one s true = record { items = tt; streams = refl }
  datagram_alike a b one s false = record { items = (one, tt); streams = refl }

  -- what a datagram comes to that is taken
  abbrev Of : (is : Sorted) → Streams → List Item × Streams
  Of is s = if◌then◌else◌ {A = List Item × Streams} (is_stream x) ([], s) (of_datagram x is, s)

  queries_alike : (p q : Query) → AreAlike p q → AskersAlike x (asker x false p) (asker x false q)
  queries_alike p q alike = record { peer = refl; by_stream = refl; request = alike.request; key = alike.key; other = λ is. absurd (is refl) }

  takes_alike : (a b : FrontEvent) → IsEventAlike x a b → (s t : Streams) → s ≡ t → TakesAlike (takes a s) (takes b t)
  takes_alike a b (AreSame is) s t same = taken_itself (takes a s) (takes b t) (ap (λ (e : FrontEvent). takes e s) is ∙ ap (takes b) same)
  takes_alike a b (AreOfPeer octets others p q moment what_a what_b is_p is_q alike) s t same =
      let first : takes a s ≡ Of (become.Taken p) (at_moment a.moment.0 s) = ap (λ (w : FrontWhat). takes_now w (at_moment a.moment.0 s)) what_a ∙ ap (λ (is : Sorted). Of is (at_moment a.moment.0 s)) is_p in
      let second : takes b t ≡ Of (become.Taken q) (at_moment a.moment.0 s) =
      ap (λ (w : FrontWhat). takes_now w (at_moment b.moment.0 t)) what_b ∙ ap (λ (is : Sorted). Of is (at_moment b.moment.0 t)) is_q
      ∙ ap (λ (m : Moment). Of (become.Taken q) (at_moment m.0 t)) (sym moment) ∙ ap (λ (z : Streams). Of (become.Taken q) (at_moment a.moment.0 z)) (sym same) in
      subst (λ (z : List Item × Streams). TakesAlike z (takes b t)) (sym first)
      (subst (TakesAlike (Of (become.Taken p) (at_moment a.moment.0 s))) (sym second)
      (datagram_alike (asker x false p) (asker x false q) (queries_alike p q alike) (at_moment a.moment.0 s) (is_stream x)))

  -- ---- over any client within that goes on alike

  module _ {C : Type 0} (how : Steps C) (serves : Serves C) (S : C → (ℕ → ℕ) → C → (ℕ → ℕ) → Type 0)
      (same_step : (a b c d : C) (f g h i : ℕ → ℕ) (e : Event) (r t : Row) → S a f c h → how a f e r b g → how c h e t d i → (r ≡ t) × S b g d i)
      (same_serves : (a c : C) (f h : ℕ → ℕ) → S a f c h → (m : Moment) (r : Request) → serves a m r ≡ serves c m r) where
    pub record SceneAlike (s t : Scene C) : Type 0 where
      pub within : S s.within s.words t.within t.words
      pub desk : DeskAlike x s.desk t.desk
      pub outs : AreOutsAlike x s.outs t.outs

    abbrev pub Alike : (new end : Scene C) (rows more : List Row) → Type 0
    Alike new end rows more = SceneAlike new end × (rows ≡ more)

    row_alike : (event : Event) (d e : Desk) → DeskAlike x d e → (a c : C) (f h : ℕ → ℕ) → S a f c h → (os us : List FrontOut) → AreOutsAlike x os us → (new end : Scene C) (rows more : List Row)
        → DidRow how event d a f os new rows → DidRow how event e c h us end more → Alike new end rows more
    row_alike event d e desk a c f h within os us outs new end rows more did also =
        let stepped = same_step a new.within c end.within f new.words h end.words event did.row also.row within did.stepped also.stepped in
        let put = all_put x did.row.outs d e desk in
        let end_desk : end.desk ≡ (puts_all did.row.outs e).1 = also.desk_is ∙ ap (λ (r : Row). (puts_all r.outs e).1) (sym stepped.0) in
        let end_outs : end.outs ≡ us ++ (puts_all did.row.outs e).0 = also.outs_are ∙ ap (λ (r : Row). us ++ (puts_all r.outs e).0) (sym stepped.0) in (
          record {
            within = stepped.1;
            desk = subst (λ (z : Desk). DeskAlike x z end.desk) (sym did.desk_is) (subst (DeskAlike x (puts_all did.row.outs d).1) (sym end_desk) put.1);
            outs = subst (λ (z : List FrontOut). AreOutsAlike x z end.outs) (sym did.outs_are)
                (subst (AreOutsAlike x (os ++ (puts_all did.row.outs d).0)) (sym end_outs) (outs_more x os us (puts_all did.row.outs d).0 (puts_all did.row.outs e).0 outs put.0));
          },
          did.rows_are ∙ ap (λ (r : Row). r ∷ []) stepped.0 ∙ sym also.rows_are,
        )

    leaves_alike : (done fin : List FrontOut × Desk) → Put x done fin → (old last new end : Scene C) (rows more : List Row) → SceneAlike old last → Leaves done old new rows → Leaves fin last end more
        → Alike new end rows more
    leaves_alike done fin put old last new end rows more alike did also =
        let so : SceneAlike (record old { desk = done.1; outs = old.outs ++ done.0 }) (record last { desk = fin.1; outs = last.outs ++ fin.0 }) =
        record { within = alike.within; desk = put.1; outs = outs_more x old.outs last.outs done.0 fin.0 alike.outs put.0 } in (
          subst (λ (z : Scene C). SceneAlike z end) (sym did.0) (subst (SceneAlike (record old { desk = done.1; outs = old.outs ++ done.0 })) (sym also.0) so),
          did.1 ∙ sym also.1,
        )

    module _ (moment : Moment) (old last : Scene C) (alike : SceneAlike old last) where
      module _ (a b : Asker) (one : AskersAlike x a b) where
        turned_alike : AreOutsAlike x (turned a) (turned b)
        turned_alike = (
          one.peer,
          (λ is. ap (λ (q : Query). away a.by_stream (turned_away q)) (one.other is) ∙ ap (λ (c : Bool). away c (turned_away b.query)) one.by_stream),
          tt,
        )

        joins_put : (k : ℕ) (may : Bool) → Put x (joins_if may k a old.desk) (joins_if may k b last.desk)
        joins_put k true = (tt, record { waits = joins_alike x old.desk.waits last.desk.waits alike.desk.waits k a b one; streams = alike.desk.streams })
        joins_put k false = (turned_alike, alike.desk)

        module _ (new end : Scene C) (rows more : List Row) where
          ask_alike : (may : Bool) → DidAskIf how may moment a old new rows → DidAskIf how may moment b last end more → Alike new end rows more
          ask_alike false did also = leaves_alike (turned a, old.desk) (turned b, last.desk) (turned_alike, alike.desk) old last new end rows more alike did also
          ask_alike true did also =
              row_alike (record { moment = moment; what = Ask (request_of a.query) }) (with_waits (asks_anew a old.desk.waits) old.desk) (with_waits (asks_anew b last.desk.waits) last.desk)
              (record { waits = anew_alike x old.desk.waits last.desk.waits alike.desk.waits a b one; streams = alike.desk.streams })
              old.within last.within old.words last.words alike.within old.outs last.outs alike.outs new end rows more did
              (subst (λ (r : Request). DidRow how (record { moment = moment; what = Ask r }) (with_waits (asks_anew b last.desk.waits) last.desk) last.within last.words last.outs end more)
              (sym one.request) also)

          join_alike : (k : ℕ) (may must : Bool) → may ≡ must → Leaves (joins_if may k a old.desk) old new rows → Leaves (joins_if must k b last.desk) last end more → Alike new end rows more
          join_alike k may must is did also =
              leaves_alike (joins_if may k a old.desk) (joins_if may k b last.desk) (joins_put k may) old last new end rows more alike did
              (subst (λ (c : Bool). Leaves (joins_if c k b last.desk) last end more) (sym is) also)

          query_alike : (same : Option ℕ) → DidQuery how serves same moment a old new rows → DidQuery how serves same moment b last end more → Alike new end rows more
          query_alike (Some k) did also =
              join_alike k (may_join k a.by_stream old.desk.waits) (may_join k b.by_stream last.desk.waits)
              (may_same x old.desk.waits last.desk.waits alike.desk.waits k a.by_stream ∙ ap (λ (c : Bool). may_join k c last.desk.waits) one.by_stream) did also
          query_alike None did also =
              ask_alike (has_room old.desk.waits || serves old.within moment (request_of a.query)) did
              (subst (λ (c : Bool). DidAskIf how c moment b last end more)
              (sym (ap (λ (c : Bool). c || serves old.within moment (request_of a.query)) (room_same x old.desk.waits last.desk.waits alike.desk.waits)
              ∙ ap (λ (c : Bool). has_room last.desk.waits || c)
              (same_serves old.within last.within old.words last.words alike.within moment (request_of a.query) ∙ ap (serves last.within moment) one.request))) also)

          asks_alike : DidItem how serves moment (Asks a) old new rows → DidItem how serves moment (Asks b) last end more → Alike new end rows more
          asks_alike did also =
              query_alike (same_asked (key_of a.query) old.desk.waits) did
              (subst (λ (o : Option ℕ). DidQuery how serves o moment b last end more)
              (sym (same_same x old.desk.waits last.desk.waits alike.desk.waits (key_of a.query) ∙ ap (λ (k : List ℕ). same_asked k last.desk.waits) one.key)) also)

      item_alike : (i j : Item) → ItemAlike i j → (new end : Scene C) (rows more : List Row) → DidItem how serves moment i old new rows → DidItem how serves moment j last end more → Alike new end rows more
      item_alike (Asks a) (Asks b) both new end rows more did also = asks_alike a b both new end rows more did also
      item_alike (Refuses p os) (Refuses q us) both new end rows more did also =
          leaves_alike (Answer p os ∷ [], old.desk) (Answer q us ∷ [], last.desk) ((both.0, (λ is. both.1), tt), alike.desk) old last new end rows more alike did also
      item_alike (Drops p) (Drops q) both new end rows more did also =
          leaves_alike (Drop p ∷ [], with_streams (closes p old.desk.streams) old.desk) (Drop q ∷ [], with_streams (closes q last.desk.streams) last.desk)
          ((both, tt), record { waits = alike.desk.waits; streams = ap (closes p) alike.desk.streams ∙ ap (λ (n : ℕ). closes n last.desk.streams) both })
          old last new end rows more alike did also
      item_alike (Happens w) (Happens v) both new end rows more did also =
          row_alike (record { moment = moment; what = w }) old.desk last.desk alike.desk old.within last.within old.words last.words alike.within old.outs last.outs alike.outs new end rows more did
          (subst (λ (z : What). DidRow how (record { moment = moment; what = z }) last.desk last.within last.words last.outs end more) (sym both) also)
      item_alike _ _ both new end rows more did also = absurd both

      tick_alike : (some : Bool) (new end : Scene C) (rows more : List Row) → DidTick how some moment old new rows → DidTick how some moment last end more → Alike new end rows more
      tick_alike true new end rows more did also = leaves_alike ([], old.desk) ([], last.desk) (tt, alike.desk) old last new end rows more alike did also
      tick_alike false new end rows more did also =
          row_alike (record { moment = moment; what = Tick }) old.desk last.desk alike.desk old.within last.within old.words last.words alike.within old.outs last.outs alike.outs new end rows more did also

    all_alike : (moment : Moment) (is js : List Item) → ItemsAlike is js → (old last : Scene C) → SceneAlike old last → (new end : Scene C) (rows more : List Row)
        → DoneAll how serves moment is old new rows → DoneAll how serves moment js last end more → Alike new end rows more
    all_alike moment [] [] all old last alike new end rows more did also =
        (subst (λ (z : Scene C). SceneAlike z end) (sym did.0) (subst (SceneAlike old) (sym also.0) alike), did.1 ∙ sym also.1)
    all_alike moment (i ∷ is) (j ∷ js) all old last alike new end rows more did also =
        let first = item_alike moment old last alike i j all.0 did.middle also.middle did.now also.now did.did also.did in
        let rest = all_alike moment is js all.1 did.middle also.middle first.0 new end did.later also.later did.rest also.rest in
        (rest.0, did.rows_are ∙ ap (λ (z : List Row). z ++ did.later) first.1 ∙ ap (λ (z : List Row). also.now ++ z) rest.1 ∙ sym also.rows_are)
    all_alike moment _ _ all old last alike new end rows more did also = absurd all

    -- one event
    pub took_alike : (a b : FrontEvent) → IsEventAlike x a b → (within last : C) (f h : ℕ → ℕ) → S within f last h → (d e : Desk) → DeskAlike x d e → (new end : Scene C)
        → (took : TookIn how serves a within f d new) (also : TookIn how serves b last h e end) → Alike new end (took.rows ++ took.now) (also.rows ++ also.now)
    took_alike a b event within last f h same d e desk new end took also =
        let taken = takes_alike a b event d.streams e.streams desk.streams in
        let start : SceneAlike (scene within f (with_streams (takes a d.streams).1 d) []) (scene last h (with_streams (takes b e.streams).1 e) []) =
        record { within = same; desk = record { waits = desk.waits; streams = taken.streams }; outs = tt } in
        let at : b.moment ≡ a.moment = sym (same_moment a b event) in
        let doing : Doing how serves a.moment (takes b e.streams).0 (scene last h (with_streams (takes b e.streams).1 e) []) [] also.middle also.rows =
        subst (λ (m : Moment). Doing how serves m (takes b e.streams).0 (scene last h (with_streams (takes b e.streams).1 e) []) [] also.middle also.rows) at also.doing in
        let middle = all_alike a.moment (takes a d.streams).0 (takes b e.streams).0 taken.items (scene within f (with_streams (takes a d.streams).1 d) [])
        (scene last h (with_streams (takes b e.streams).1 e) []) start took.middle also.middle took.rows also.rows
        (done_so how serves a.moment (takes a d.streams).0 (scene within f (with_streams (takes a d.streams).1 d) []) took.middle took.rows took.doing)
        (done_so how serves a.moment (takes b e.streams).0 (scene last h (with_streams (takes b e.streams).1 e) []) also.middle also.rows doing) in
        let ticked : DidTick how (is_some_row took.rows) a.moment also.middle end also.now =
        subst (λ (m : Moment). DidTick how (is_some_row took.rows) m also.middle end also.now) at
        (subst (λ (rows : List Row). DidTick how (is_some_row rows) b.moment also.middle end also.now) (sym middle.1) also.ticked) in
        let ends = tick_alike a.moment took.middle also.middle middle.0 (is_some_row took.rows) new end took.now also.now took.ticked ticked in
        (ends.0, ap (λ (z : List Row). z ++ took.now) middle.1 ∙ ap (λ (z : List Row). also.rows ++ z) ends.1)
      where
        same_moment : (a b : FrontEvent) → IsEventAlike x a b → a.moment ≡ b.moment
        same_moment a b (AreSame is) = ap (λ (e : FrontEvent). e.moment) is
        same_moment a b (AreOfPeer octets others p q moment what_a what_b is_p is_q alike) = moment
