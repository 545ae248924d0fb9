mod Placing
mod Working
