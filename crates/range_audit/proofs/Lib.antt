mod Boxed
mod Closer
mod Cycles
mod Joined
mod NoneNamed
mod Steps
mod Typed
mod Worked
