use Rattle.std.proofs.Common.{◌≡◌, [], ◌∷◌, None, Some, codes, refl}
use Rattle.clap.proofs.OnLiterals.{clap_on_literals}
use Rattle.command_line.specs.Asked.{asked}
use Rattle.command_line.specs.declared.command.Command.TheVariants.{Check, Answer, Map, Repair, Serve, Large, Places}

-- the declaration on words that are written out
check_is_taken : asked (codes "glb" ∷ codes "check" ∷ codes "t" ∷ codes "m" ∷ []) ≡ Some (Check (codes "t") (codes "m"))
unfolding clap_on_literals
check_is_taken = refl

answer_is_taken : asked (codes "glb" ∷ codes "answer" ∷ codes "t" ∷ codes "m" ∷ codes "a" ∷ codes "h" ∷ []) ≡ Some (Answer (codes "t") (codes "m") (codes "a") (codes "h"))
unfolding clap_on_literals
answer_is_taken = refl

map_is_taken : asked (codes "glb" ∷ codes "map" ∷ codes "t" ∷ []) ≡ Some (Map (codes "t"))
unfolding clap_on_literals
map_is_taken = refl

repair_is_taken : asked (codes "glb" ∷ codes "repair" ∷ codes "t" ∷ codes "m" ∷ codes "c" ∷ []) ≡ Some (Repair (codes "t") (codes "m") (codes "c"))
unfolding clap_on_literals
repair_is_taken = refl

serve_is_taken : asked (codes "glb" ∷ codes "serve" ∷ codes "t" ∷ codes "--listen" ∷ codes "x" ∷ codes "--workers" ∷ codes "2" ∷ []) ≡ Some (Serve (codes "t") (codes "x") (Some (codes "2")) None None None None)
unfolding clap_on_literals
serve_is_taken = refl

serve_alone_is_taken : asked (codes "glb" ∷ codes "serve" ∷ codes "--listen" ∷ codes "x" ∷ codes "t" ∷ []) ≡ Some (Serve (codes "t") (codes "x") None None None None None)
unfolding clap_on_literals
serve_alone_is_taken = refl

serve_over_tcp_is_taken : asked (codes "glb" ∷ codes "serve" ∷ codes "t" ∷ codes "--tcp" ∷ codes "y" ∷ codes "--listen" ∷ codes "x" ∷ []) ≡ Some (Serve (codes "t") (codes "x") None (Some (codes "y")) None None None)
unfolding clap_on_literals
serve_over_tcp_is_taken = refl

serve_with_a_feed_more_is_taken : asked (codes "glb" ∷ codes "serve" ∷ codes "--feed3" ∷ codes "p" ∷ codes "t" ∷ codes "--listen" ∷ codes "x" ∷ []) ≡ Some (Serve (codes "t") (codes "x") None None None (Some (codes "p")) None)
unfolding clap_on_literals
serve_with_a_feed_more_is_taken = refl

serve_with_all_feeds_is_taken : asked (codes "glb" ∷ codes "serve" ∷ codes "t" ∷ codes "--listen" ∷ codes "x" ∷ codes "--feed4" ∷ codes "r" ∷ codes "--feed2" ∷ codes "p" ∷ codes "--feed3" ∷ codes "q" ∷ []) ≡ Some (Serve (codes "t") (codes "x") None None (Some (codes "p")) (Some (codes "q")) (Some (codes "r")))
unfolding clap_on_literals
serve_with_all_feeds_is_taken = refl

serve_nowhere_is_not : asked (codes "glb" ∷ codes "serve" ∷ codes "t" ∷ []) ≡ None
unfolding clap_on_literals
serve_nowhere_is_not = refl

large_is_taken : asked (codes "glb" ∷ codes "large" ∷ codes "64" ∷ []) ≡ Some (Large (codes "64"))
unfolding clap_on_literals
large_is_taken = refl

places_is_taken : asked (codes "glb" ∷ codes "places" ∷ codes "t" ∷ []) ≡ Some (Places (codes "t"))
unfolding clap_on_literals
places_is_taken = refl

escaped_is_taken : asked (codes "glb" ∷ codes "check" ∷ codes "--" ∷ codes "-t" ∷ codes "-m" ∷ []) ≡ Some (Check (codes "-t") (codes "-m"))
unfolding clap_on_literals
escaped_is_taken = refl

one_more_is_not : asked (codes "glb" ∷ codes "map" ∷ codes "t" ∷ codes "m" ∷ []) ≡ None
unfolding clap_on_literals
one_more_is_not = refl

dashed_is_not : asked (codes "glb" ∷ codes "check" ∷ codes "-t" ∷ codes "m" ∷ []) ≡ None
unfolding clap_on_literals
dashed_is_not = refl

help_is_not : asked (codes "glb" ∷ codes "--help" ∷ []) ≡ None
unfolding clap_on_literals
help_is_not = refl

nothing_is_not : asked (codes "glb" ∷ []) ≡ None
unfolding clap_on_literals
nothing_is_not = refl
