-- A worked conversation: a message of two octets that has no reply, cut behind its first octet.
use Rattle.std.proofs.Common.{◌≡◌, ℕ, ◌≤◌, true, List, [], ◌∷◌, length, refl, arith}
use Rattle.std.proofs.lemmas.List.Elements.{All-cons, All-nil}
use Rattle.addr_text.specs.declared.address.Addr.TheVariants.{V4}
use Rattle.addr_text.specs.declared.address.Peer.{Peer}
use Rattle.outside.specs.Port.{Try}
use Rattle.outside.specs.Streams.{Piece}
use Rattle.answer_core.specs.declared.way.Way.TheVariants.{Stream}
use Rattle.lane_model.specs.Lanes.{Entry}
use Rattle.tcp_frames.proofs.Splits.{length_is, none_by}
use Rattle.tcp_lane.specs.Stream.{IsWhole}

abbrev client : Peer
client = record { addr = V4 7; port = 53 }

abbrev first : Piece
first = record { octets = 0 ∷ 2 ∷ 7 ∷ []; known = 3; place = 1 }

abbrev second : Piece
second = record { octets = 8 ∷ []; known = 4; place = 2 }

-- what is known at the message is what was known when its last piece was read
abbrev message : Entry
message = record { packet = record { octets = 7 ∷ 8 ∷ []; from = client }; known = 4; way = Stream }

cut : IsWhole (λ octets. true) (record { peer = client; pieces = first ∷ second ∷ []; quiets = 0; written = [] }) (message ∷ []) []
cut = record {
  rounds = (record { piece = first; entries = []; tries = [] }) ∷ (record { piece = second; entries = message ∷ []; tries = [] }) ∷ [];
  pieces = refl;
  taken_are = refl;
  tries_are = refl;
  rounds_are = (
    record {
      split = record {
        rest = 0 ∷ 2 ∷ 7 ∷ [];
        parts = refl;
        short = All-nil (λ (m : List ℕ). length m ≤ 4096);
        none = none_by 0 2 (7 ∷ []) (λ n small fits high low. let is = length_is 0 2 n high low in absurd (omega (arith, is, fits)));
      };
      from = All-nil (λ (e : Entry). e.packet.from ≡ client);
      known = tt;
    },
    (
      record {
        split = record {
          rest = [];
          parts = refl;
          short = All-cons (λ (m : List ℕ). length m ≤ 4096) (7 ∷ 8 ∷ []) [] (omega arith) (All-nil (λ (m : List ℕ). length m ≤ 4096));
          none = λ m behind small is. absurd (cc is);
        };
        from = All-cons (λ (e : Entry). e.packet.from ≡ client) message [] refl (All-nil (λ (e : Entry). e.packet.from ≡ client));
        known = (refl, refl, tt);
      },
      tt,
    ),
  );
  written = refl;
  went = All-nil (λ (s : Try). s.went ≡ true);
}
